-- A witness's image (02, Seven): reading it, an append of an epoch, and a list of them.
use Prim.Native.Nat.{ℕ, suc, ◌≤◌, ◌<◌}
use mathlib.Core.Path.{◌≡◌, refl, sym, ap, ◌∙◌}
use mathlib.Core.Bool.{Bool, true, false, cond, true≢false, not}
use mathlib.Core.List.{List, [], ◌∷◌, ◌++◌, append-nil}
use native.Mathlib.Omega.{arith}
use native.Mathlib.Decide.{ℕ_discrete}
use lib.Dec.{eqb}
use lib.ListN.{length, get_or, length-append, get_or-append}
use lib.Seq.{get_or_at, append_snoc}
use Rattle.search.proofs.UpdateLaws.{put_same, put_other}
use Rattle.slices.specs.Parts.{Bytes}
use Rattle.slices.proofs.SpliceLaws.{length_spliced}
use Rattle.record.specs.declared.Shape.{Shape}
use Rattle.record.specs.Layout.{is_witness, record_bytes}
use Rattle.record.specs.Meaning.{first_index, Record, good, bad, Entry, intact, broken, is_epoch}
use Rattle.record.proofs.LayoutLaws.{length_record}
use Rattle.record.proofs.RecordLaws.{read_good, is_epoch_lem}
use Rattle.image.specs.Image.{Image, index, image_size, record_at, first_in, decode_image, fresh_image}
use Rattle.image.specs.SetSlot.{set_record}
use Rattle.image.specs.View.{condition, epoch_of, is_lost, condition_at, epoch_at, log_length, witness_refusal}
use Rattle.image.specs.declared.condition.Condition.TheVariants.{Whole, Faulty}
use Rattle.image.specs.Read.{epochs_of}
use Rattle.image.specs.Append.{format_refusal}
use Rattle.image.specs.Witness.{record_refusal, recorded, record_appended}
use Rattle.image.specs.WitnessClaim.{WitnessReading, EmptyWitness, OneRecordMore, record_all, RecordsAccepted, ReadsAsEpochs}
use Rattle.image.proofs.ViewLaws.{Sound, gap_intro, length_count, length_le}
use Rattle.image.proofs.CallLaws.{formatted_first}
use Rattle.image.proofs.KindLaws.{kind_own, kind_readable, kind_intro, witness_witness}
use Rattle.image.proofs.DecodeLaws.{record_fits, first_is, none_there, record_spliced}
use Rattle.image.proofs.StoreLaws.{record_epoch_lem, record_epoch_other, appended_length, appended_sound}
use Rattle.image.proofs.FreshLaws.{length_fresh_image, fresh_first, fresh_readable, fresh_length, fresh_blank}
use Rattle.image.proofs.AcceptLaws.{RecordAccepts, record_accepts_elim, readable_size, readable_image, rising_last}
use Rattle.image.proofs.AppendLaws.{readable_still}
use Rattle.image.proofs.AppendListLaws.{listed_split}
use Rattle.image.proofs.ReadingLaws.{good_epoch, blank_epoch}

-- ---- reading

-- without an entry a bad record is lost
bad_lost : {r : Record} {x : Entry} {z : Bytes} → is_lost (condition r x) ≡ false → x ≡ broken [] → ¬ (r ≡ bad z)
bad_lost h e f = true≢false (unfold is_lost condition in rw (f, e) at h)

pub witness_reads : (Z : Shape) (c : ℕ) (b : Bytes) → witness_refusal Z c b ≡ 0 → WitnessReading Z.m (decode_image Z c b) (log_length Z.m (decode_image Z c b))
unfolding condition_at
witness_reads Z c b ok =
    let i = decode_image Z c b in
    let s = readable_image Z c b (kind_readable _ Z c b ok) in
    record {
      length_is = length_count Z.m i (gap_intro Z.m i s.tail);
      epoch_good = good_epoch Z.m i;
      epoch_unused = λ k h. omega (arith, blank_epoch Z.m i k h);
      none_bad = λ k z h. bad_lost (s.kept k h) (none_there Z c b k (witness_witness Z c b ok));
    }

-- ---- a record, taken apart

module _ (Z : Shape) (c : ℕ) (b : Bytes) (size : length b ≡ image_size Z c) (k : ℕ) (km : k < Z.m) (e : ℕ) {first : ℕ} (from : first ≡ first_in Z c b) where
  pub length_recorded : length (recorded Z first b k e) ≡ length b
  unfolding recorded
  length_recorded = length_spliced b (record_at Z k) (record_bytes e (index first k)) (omega (arith, length_record e (index first k), record_fits Z c k km))

  pub recorded_set : is_epoch e ≡ true → decode_image Z c (recorded Z first b k e) ≡ set_record (decode_image Z c b) k (good e)
  unfolding recorded
  recorded_set ep =
      record_spliced Z c b size k km (record_bytes e (index first k)) (length_record e (index first k))
      ∙ ap (set_record (decode_image Z c b) k) (rw (← from) (read_good (index first k) e ep))

-- a good record is not lost, whatever stands beside it
good_kept : (e : ℕ) (x : Entry) → is_lost (condition (good e) x) ≡ false
unfolding is_lost condition
good_kept e (intact f p) = go (eqb e f)
  where
    go : (t : Bool) → is_lost (cond t Whole Faulty) ≡ false
    go true = refl
    go false = refl
good_kept e (broken z) = refl

-- ---- one append

-- b becomes d by an append that is accepted
module _ (Z : Shape) (c : ℕ) (b : Bytes) (e : ℕ) (d : Bytes) (high : e ≤ 4294967295) (ok : RecordAccepts Z c b e)
    (by : d ≡ recorded Z (first_in Z c b) b (log_length Z.m (decode_image Z c b)) e) where
  abbrev before : Image
  before = decode_image Z c b

  abbrev len : ℕ
  len = log_length Z.m (decode_image Z c b)

  size : length b ≡ image_size Z c
  size = readable_size Z c b (kind_readable _ Z c b ok.readable)

  sound : Sound Z.m before
  sound = readable_image Z c b (kind_readable _ Z c b ok.readable)

  as_long : length d ≡ length b
  as_long = ap length by ∙ length_recorded Z c b size len ok.room e refl

  becomes : decode_image Z c d ≡ set_record before len (good e)
  becomes = ap (decode_image Z c) by ∙ recorded_set Z c b size len ok.room e refl (is_epoch_lem e ok.positive high)

  readable : witness_refusal Z c d ≡ 0
  readable =
      kind_intro _ Z c d (kind_own _ Z c b ok.readable)
      (readable_still Z c b d as_long (kind_readable _ Z c b ok.readable)
      (rw becomes (appended_sound Z.m before len e sound refl ok.room (good_kept e (before.entries len)) (rising_last Z c b sound e ok.rising))))

  grown : log_length Z.m (decode_image Z c d) ≡ suc len
  grown = rw becomes (appended_length Z.m before len e sound refl ok.room)

  kept : (k : ℕ) → ¬ (k ≡ len) → (set_record before len (good e)).records k ≡ before.records k
  unfolding set_record
  kept k q = put_other before.records len (good e) k q

  here : (set_record before len (good e)).records len ≡ good e
  unfolding set_record
  here = put_same before.records len (good e)

  head : (set_record before len (good e)).header ≡ before.header
  unfolding set_record
  head = refl

  pub one_record_more : OneRecordMore Z c b before len e d (decode_image Z c d)
  unfolding epoch_of
  one_record_more = record {
    size = as_long;
    readable = readable;
    begins = sym (first_is Z c d) ∙ ap (λ (i : Image). first_index i.header) becomes ∙ ap first_index head ∙ first_is Z c b;
    room = ok.room;
    longer = omega (arith, grown);
    written = rw becomes here;
    epoch = rw becomes (record_epoch_lem Z.m before len (good e));
    header_stays = ap (λ (i : Image). i.header) becomes ∙ head;
    records_stay = λ k q. rw becomes (kept k q);
    epochs_stay = λ k q. rw becomes (record_epoch_other Z.m before len (good e) k q);
  }

pub appended_recorded : (Z : Shape) (c : ℕ) (b : Bytes) (e : ℕ) → record_refusal Z c b e ≡ 0
    → record_appended Z c b e ≡ recorded Z (first_in Z c b) b (log_length Z.m (decode_image Z c b)) e
unfolding record_appended
appended_recorded Z c b e h = rw h

pub record_more : (Z : Shape) (c : ℕ) (b : Bytes) (e : ℕ) → e ≤ 4294967295 → record_refusal Z c b e ≡ 0
    → OneRecordMore Z c b (decode_image Z c b) (log_length Z.m (decode_image Z c b)) e (record_appended Z c b e) (decode_image Z c (record_appended Z c b e))
record_more Z c b e high ok = one_record_more Z c b e (record_appended Z c b e) high (record_accepts_elim Z c b e ok) (appended_recorded Z c b e ok)

-- ---- a fresh image

pub empty_witness : (Z : Shape) (c first : ℕ) → is_witness Z c ≡ true → format_refusal Z c first (image_size Z c) ≡ 0 → EmptyWitness Z c first (fresh_image Z c first)
empty_witness Z c first witness h = record {
  size = length_fresh_image Z c first;
  readable = kind_intro _ Z c (fresh_image Z c first) (ap not witness) (fresh_readable Z c first h);
  begins = fresh_first Z c first (formatted_first Z c first (image_size Z c) h);
  none = fresh_length Z c first;
  blanks = λ k x. fresh_blank Z c first k;
}

-- ---- a list of appends

-- so much of b holds the list
record Holds (Z : Shape) (c first : ℕ) (b : Bytes) (l : List ℕ) : Type 0 where
  begins : first_in Z c b ≡ first
  readable : witness_refusal Z c b ≡ 0
  many : log_length Z.m (decode_image Z c b) ≡ length l
  epochs : (k : ℕ) → k < length l → epoch_at (decode_image Z c b) k ≡ get_or l k 0

holds_fresh : (Z : Shape) (c first : ℕ) → is_witness Z c ≡ true → format_refusal Z c first (image_size Z c) ≡ 0 → Holds Z c first (fresh_image Z c first) []
holds_fresh Z c first witness h =
    let w = empty_witness Z c first witness h in
    record { begins = w.begins; readable = w.readable; many = w.none; epochs = λ k x. absurd (omega arith) }

holds_more : (Z : Shape) (c first : ℕ) (b : Bytes) (l : List ℕ) (e : ℕ) → Holds Z c first b l → e ≤ 4294967295 → record_refusal Z c b e ≡ 0
    → Holds Z c first (record_appended Z c b e) (l ++ (e ∷ []))
holds_more Z c first b l e w high ok = record {
  begins = longer.begins ∙ w.begins;
  readable = longer.readable;
  many = longer.longer ∙ omega (arith, w.many, length-append l (e ∷ []));
  epochs = λ k h. each k h (ℕ_discrete k (length l));
}
  where
    longer : OneRecordMore Z c b (decode_image Z c b) (log_length Z.m (decode_image Z c b)) e (record_appended Z c b e) (decode_image Z c (record_appended Z c b e))
    longer = record_more Z c b e high ok

    each : (k : ℕ) → k < length (l ++ (e ∷ [])) → Dec (k ≡ length l) → epoch_at (decode_image Z c (record_appended Z c b e)) k ≡ get_or (l ++ (e ∷ [])) k 0
    each k h (yes q) = rw (q, get_or_at l e [] 0 (length l) refl) (rw w.many at longer.epoch)
    each k h (no q) =
        let x : k < length l = omega (arith, length-append l (e ∷ []), q) in
        rw (get_or-append l (e ∷ []) 0 k x) (longer.epochs_stay k (λ z. omega (arith, w.many)) ∙ w.epochs k x)

holds_all : (Z : Shape) (c first : ℕ) (r : List ℕ) (b : Bytes) (l : List ℕ) → Holds Z c first b l → RecordsAccepted Z c b r
    → Holds Z c first (record_all Z c b r) (l ++ r)
unfolding record_all RecordsAccepted
holds_all Z c first [] b l w t = rw (append-nil l) w
holds_all Z c first (e ∷ r) b l w t =
    rw (← append_snoc l e r) (holds_all Z c first r (record_appended Z c b e) (l ++ (e ∷ [])) (holds_more Z c first b l e w t.0 t.1) t.2)

-- what holds, as the reader answers it
reads_as : (Z : Shape) (c first : ℕ) (b : Bytes) (l : List ℕ) → Holds Z c first b l → ReadsAsEpochs Z c first b l
unfolding epochs_of epoch_at epoch_of
reads_as Z c first b l w = record {
  readable = w.readable;
  begins = w.begins;
  many = w.many;
  epochs = listed_split Z.m (epoch_at image) l 0 (omega (arith, length_le Z.m image, w.many)) w.epochs (λ k h x. rw (sound.tail k (omega (arith, w.many)) x));
}
  where
    image : Image
    image = decode_image Z c b

    sound : Sound Z.m (decode_image Z c b)
    sound = readable_image Z c b (kind_readable _ Z c b w.readable)

pub several_epochs : (Z : Shape) (c first : ℕ) (l : List ℕ) → is_witness Z c ≡ true → format_refusal Z c first (image_size Z c) ≡ 0
    → RecordsAccepted Z c (fresh_image Z c first) l → ReadsAsEpochs Z c first (record_all Z c (fresh_image Z c first) l) l
several_epochs Z c first l witness h a =
    reads_as Z c first (record_all Z c (fresh_image Z c first) l) l (holds_all Z c first l (fresh_image Z c first) [] (holds_fresh Z c first witness h) a)
