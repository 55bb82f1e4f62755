-- What each store does to the view of the replica that it is made on.
use mathlib.Core.Path.{◌≡◌, refl, sym, ap, ◌∙◌}
use mathlib.Core.Bool.{Bool, true, false, cond, true≢false}
use Prim.Native.Nat.{ℕ, suc, ◌≤◌, ◌<◌}
use native.Mathlib.Omega.{arith}
use native.Mathlib.Decide.{ℕ_discrete}
use lib.Dec.{eqb}
use borrow.Author.Tests.{eqb-true}
use Rattle.slices.specs.Parts.{Bytes}
use Rattle.record.specs.Meaning.{Record, good, blank, bad, Entry, intact, broken}
use Rattle.image.specs.Image.{Image}
use Rattle.image.specs.SetSlot.{set_record, set_entry}
use Rattle.image.specs.View.{View, condition, epoch_of, is_blank, is_lost, condition_at, epoch_at, log_length, view_of, condition_as, seen_as}
use Rattle.image.specs.declared.condition.Condition.{Condition}
use Rattle.image.specs.declared.condition.Condition.TheVariants.{Unused, Whole, RecordLost, Faulty, Lost, RecordOnly}
use Rattle.image.specs.Read.{is_whole}
use Rattle.image.proofs.ViewLaws.{Sound, readable_present, readable_sound, readable_intro}
use Rattle.image.proofs.AddedLaws.{whole_beside}
use Rattle.image.proofs.StoreLaws.{entry_length, entry_epoch_lem, entry_condition, entry_condition_other, entry_sound, record_condition, record_condition_other, record_epoch_lem, record_epoch_other, mended_length, mended_epoch, mended_sound, blanked_length, blanked_sound, appended_length, appended_sound}
use Rattle.planner.specs.Setting.{Setting, witness}
use Rattle.planner.specs.Rules.{is_faulty, is_record_lost}

abbrev pub view : Setting → ℕ → Image → View
view S c i = seen_as (witness S c) (view_of (S.present c) S.shape.m i)

-- nothing is left to do at a slot in this condition
unfoldable pub is_complete : Condition → Bool
is_complete Unused = false
is_complete Whole = true
is_complete RecordLost = false
is_complete Faulty = false
is_complete Lost = false
is_complete RecordOnly = true

-- ---- what conditions tell
pub record GoodAt (r : Record) : Type 0 where
  pub epoch : ℕ
  pub is : r ≡ good epoch

pub faulty_good : (r : Record) (x : Entry) → is_faulty (condition r x) ≡ true → GoodAt r
unfolding is_faulty condition
faulty_good (good e) x h = record { epoch = e; is = refl }
faulty_good blank x h = absurd (true≢false (sym h))
faulty_good (bad b) (intact e p) h = absurd (true≢false (sym h))
faulty_good (bad b) (broken d) h = absurd (true≢false (sym h))

-- a whole slot's entry is intact with the slot's epoch
pub record IntactAt (e : ℕ) (x : Entry) : Type 0 where
  pub payload : Bytes
  pub is : x ≡ intact e payload

pub whole_intact : (r : Record) (x : Entry) → is_whole (condition r x) ≡ true → IntactAt (epoch_of r x) x
unfolding is_whole condition epoch_of
whole_intact (good e) (intact f p) h = go (eqb e f) refl h
  where
    go : (t : Bool) → eqb e f ≡ t → is_whole (cond t Whole Faulty) ≡ true → IntactAt e (intact f p)
    go true q h = record { payload = p; is = rw (eqb-true e f q) refl }
    go false q h = absurd (true≢false (sym h))
whole_intact (good e) (broken b) h = absurd (true≢false (sym h))
whole_intact blank x h = absurd (true≢false (sym h))
whole_intact (bad b) (intact e p) h = record { payload = p; is = refl }
whole_intact (bad b) (broken d) h = absurd (true≢false (sym h))

faulty_is : (d : Condition) → is_faulty d ≡ true → d ≡ Faulty
unfolding is_faulty
faulty_is Unused h = absurd (true≢false (sym h))
faulty_is Whole h = absurd (true≢false (sym h))
faulty_is RecordLost h = absurd (true≢false (sym h))
faulty_is Faulty h = refl
faulty_is Lost h = absurd (true≢false (sym h))
faulty_is RecordOnly h = absurd (true≢false (sym h))

pub lost_whole : (d : Condition) → is_record_lost d ≡ true → is_whole d ≡ true
unfolding is_record_lost is_whole
lost_whole Unused h = h
lost_whole Whole h = refl
lost_whole RecordLost h = h
lost_whole Faulty h = h
lost_whole Lost h = h
lost_whole RecordOnly h = h

lost_used : (r : Record) (x : Entry) → is_record_lost (condition r x) ≡ true → is_blank r ≡ false
unfolding is_record_lost condition is_blank
lost_used (good e) x h = refl
lost_used blank x h = sym h
lost_used (bad b) x h = refl

-- ---- a witness's slot is neither faulty nor whole, and its record is not lost alone
bare : (d : Condition) → (is_faulty (condition_as true d) ≡ false) × (is_record_lost (condition_as true d) ≡ false) × (is_whole (condition_as true d) ≡ false)
unfolding condition_as is_faulty is_record_lost is_whole
bare Unused = (refl, refl, refl)
bare Whole = (refl, refl, refl)
bare RecordLost = (refl, refl, refl)
bare Faulty = (refl, refl, refl)
bare Lost = (refl, refl, refl)
bare RecordOnly = (refl, refl, refl)

-- a replica with such a slot is no witness
pub record Card (w : Bool) (d : Condition) : Type 0 where
  pub card : w ≡ false
  pub same : condition_as w d ≡ d

card_intro : (w : Bool) (d : Condition) (test : Condition → Bool) → test (condition_as true d) ≡ false → test (condition_as w d) ≡ true → Card w d
unfolding condition_as
card_intro true d test n h = absurd (true≢false (sym h ∙ n))
card_intro false d test n h = record { card = refl; same = refl }

module _ (w : Bool) (d : Condition) where
  pub faulty_card : is_faulty (condition_as w d) ≡ true → Card w d
  faulty_card = card_intro w d is_faulty (bare d).0

  pub lost_card : is_record_lost (condition_as w d) ≡ true → Card w d
  lost_card = card_intro w d is_record_lost (bare d).1

  pub whole_card : is_whole (condition_as w d) ≡ true → Card w d
  whole_card = card_intro w d is_whole (bare d).2

pub card_same : (w : Bool) (d : Condition) → w ≡ false → condition_as w d ≡ d
unfolding condition_as
card_same w d e = rw e

-- a good record is never lost, whatever stands beside it
good_kept : (e : ℕ) (x : Entry) → is_lost (condition (good e) x) ≡ false
unfolding condition is_lost
good_kept e (intact f p) = go (eqb e f)
  where
    go : (t : Bool) → is_lost (cond t Whole Faulty) ≡ false
    go true = refl
    go false = refl
good_kept e (broken b) = refl

-- ---- a view before and after
pub record Blanked (l : ℕ) (a b : View) : Type 0 where
  pub readable : b.readable ≡ true
  pub first : b.first ≡ a.first
  pub was : a.length ≡ suc l
  pub is : b.length ≡ l
  pub conditions : (j : ℕ) → j < l → b.condition j ≡ a.condition j
  pub epochs : (j : ℕ) → j < l → b.epoch j ≡ a.epoch j

pub record Mended (k : ℕ) (a b : View) : Type 0 where
  pub readable : b.readable ≡ true
  pub first : b.first ≡ a.first
  pub lengths : b.length ≡ a.length
  pub whole : b.condition k ≡ Whole
  pub conditions : (j : ℕ) → (j ≡ k → ⊥) → b.condition j ≡ a.condition j
  pub epochs : (j : ℕ) → b.epoch j ≡ a.epoch j

pub record Appended (l e : ℕ) (a b : View) : Type 0 where
  pub readable : b.readable ≡ true
  pub first : b.first ≡ a.first
  pub was : a.length ≡ l
  pub is : b.length ≡ suc l
  pub complete : is_complete (b.condition l) ≡ true
  pub conditions : (j : ℕ) → j < l → b.condition j ≡ a.condition j
  pub epoch : b.epoch l ≡ e
  pub epochs : (j : ℕ) → j < l → b.epoch j ≡ a.epoch j

pub view_ext : (a b : View) → a.readable ≡ b.readable → a.first ≡ b.first → a.length ≡ b.length → ((j : ℕ) → a.condition j ≡ b.condition j) → ((j : ℕ) → a.epoch j ≡ b.epoch j) → a ≡ b
view_ext a b p f q r s = λ i. record { readable = p i; first = f i; length = q i; condition = λ j. r j i; epoch = λ j. s j i }

module _ (S : Setting) (c : ℕ) (i : Image) (ok : (view S c i).readable ≡ true) where
  abbrev w : Bool
  w = witness S c

  sound : Sound S.shape.m i
  unfolding seen_as
  sound = readable_sound (S.present c) S.shape.m i ok

  readable : (j : Image) → Sound S.shape.m j → (view S c j).readable ≡ true
  unfolding seen_as
  readable j s = readable_intro (S.present c) S.shape.m j (readable_present (S.present c) S.shape.m i ok) s

  pub blank_effect : (l : ℕ) → (view S c i).length ≡ suc l → Blanked l (view S c i) (view S c (set_record i l blank))
  unfolding seen_as view_of set_record
  blank_effect l h = record {
    readable = readable (set_record i l blank) (blanked_sound S.shape.m i l sound h);
    first = refl;
    was = h;
    is = blanked_length S.shape.m i l sound h;
    conditions = λ j b. ap (condition_as w) (record_condition_other S.shape.m i l blank j (omega arith));
    epochs = λ j b. record_epoch_other S.shape.m i l blank j (omega arith);
  }

  -- a faulty slot gets an intact entry of its epoch
  pub mend_effect : (k : ℕ) (p : Bytes) → is_faulty ((view S c i).condition k) ≡ true → Mended k (view S c i) (view S c (set_entry i k (intact ((view S c i).epoch k) p)))
  unfolding seen_as view_of set_entry condition_at epoch_at epoch_of is_lost
  mend_effect k p h =
      let a = faulty_card w (condition_at i k) h in
      let g = faulty_good (i.records k) (i.entries k) (ap is_faulty (sym a.same) ∙ h) in
      let x = intact (epoch_of (i.records k) (i.entries k)) p in
      let same : epoch_of (i.records k) x ≡ epoch_at i k = rw g.is in
      let v : condition (i.records k) x ≡ Whole = rw g.is (whole_beside g.epoch p) in
      record {
        readable = readable (set_entry i k x) (entry_sound S.shape.m i k x sound (ap is_lost v) same);
        first = refl;
        lengths = entry_length S.shape.m i k x;
        whole = ap (condition_as w) (entry_condition S.shape.m i k x ∙ v) ∙ card_same w Whole a.card;
        conditions = λ j q. ap (condition_as w) (entry_condition_other S.shape.m i k x j q);
        epochs = entry_epoch_lem S.shape.m i k x same;
      }

  -- a slot whose record is lost gets it back
  pub write_effect : (k : ℕ) → is_record_lost ((view S c i).condition k) ≡ true → Mended k (view S c i) (view S c (set_record i k (good ((view S c i).epoch k))))
  unfolding seen_as view_of set_record condition_at epoch_at is_lost
  write_effect k h =
      let e = epoch_at i k in
      let a = lost_card w (condition_at i k) h in
      let b = ap is_record_lost (sym a.same) ∙ h in
      let y = whole_intact (i.records k) (i.entries k) (lost_whole (condition (i.records k) (i.entries k)) b) in
      let v : condition (good e) (i.entries k) ≡ Whole = ap (λ (x : Entry). condition (good e) x) y.is ∙ whole_beside e y.payload in
      let u = lost_used (i.records k) (i.entries k) b in
      record {
        readable = readable (set_record i k (good e)) (mended_sound S.shape.m i k e sound u refl (ap is_lost v));
        first = refl;
        lengths = mended_length S.shape.m i k e sound u refl;
        whole = ap (condition_as w) (record_condition S.shape.m i k (good e) ∙ v) ∙ card_same w Whole a.card;
        conditions = λ j q. ap (condition_as w) (record_condition_other S.shape.m i k (good e) j q);
        epochs = mended_epoch S.shape.m i k e sound u refl;
      }

  -- the first unused slot gets a record that leaves nothing to do
  pub append_effect : (e : ℕ) → (view S c i).length < S.shape.m → is_complete (condition_as (witness S c) (condition (good e) (i.entries (view S c i).length))) ≡ true
      → ((j : ℕ) → suc j ≡ (view S c i).length → (view S c i).epoch j ≤ e)
      → Appended (view S c i).length e (view S c i) (view S c (set_record i (view S c i).length (good e)))
  unfolding seen_as view_of set_record epoch_of
  append_effect e room x up =
      let l = log_length S.shape.m i in
      record {
        readable = readable (set_record i l (good e)) (appended_sound S.shape.m i l e sound refl room (good_kept e (i.entries l)) up);
        first = refl;
        was = refl;
        is = appended_length S.shape.m i l e sound refl room;
        complete = ap (λ (d : Condition). is_complete (condition_as w d)) (record_condition S.shape.m i l (good e)) ∙ x;
        conditions = λ j h. ap (condition_as w) (record_condition_other S.shape.m i l (good e) j (omega arith));
        epoch = record_epoch_lem S.shape.m i l (good e);
        epochs = λ j h. record_epoch_other S.shape.m i l (good e) j (omega arith);
      }

  -- an entry behind the log, or a broken one at a faulty slot: the view stays
  still : (k : ℕ) (x : Entry) → condition (i.records k) x ≡ condition_at i k → epoch_of (i.records k) x ≡ epoch_at i k → is_lost (condition_at i k) ≡ false
      → view S c (set_entry i k x) ≡ view S c i
  unfolding seen_as view_of set_entry log_length
  still k x e f l =
      view_ext (view S c (set_entry i k x)) (view S c i)
      (readable (set_entry i k x) (entry_sound S.shape.m i k x sound (ap is_lost e ∙ l) f) ∙ sym ok)
      refl
      refl
      (λ j. ap (condition_as w) (same j (ℕ_discrete j k)))
      (entry_epoch_lem S.shape.m i k x f)
    where
      same : (j : ℕ) → Dec (j ≡ k) → condition_at (set_entry i k x) j ≡ condition_at i j
      same j (yes q) = rw q (entry_condition S.shape.m i k x ∙ e)
      same j (no q) = entry_condition_other S.shape.m i k x j q

  pub torn_effect : (k : ℕ) (b : Bytes) → is_faulty ((view S c i).condition k) ≡ true → view S c (set_entry i k (broken b)) ≡ view S c i
  unfolding seen_as view_of condition_at epoch_at epoch_of condition is_lost
  torn_effect k b h =
      let a = ap is_faulty (sym (faulty_card w (condition_at i k) h).same) ∙ h in
      let g = faulty_good (i.records k) (i.entries k) a in
      let f : condition_at i k ≡ Faulty = faulty_is (condition_at i k) a in
      still k (broken b) (rw g.is (sym (rw g.is at f))) (rw g.is) (ap is_lost f)

  -- behind the log any entry may stand
  pub fill_effect : (k : ℕ) (x : Entry) → (view S c i).length ≤ k → k < S.shape.m → view S c (set_entry i k x) ≡ view S c i
  unfolding seen_as view_of condition_at epoch_at epoch_of condition is_lost
  fill_effect k x a b = still k x (rw (sound.tail k a b)) (rw (sound.tail k a b)) (rw (sound.tail k a b))
