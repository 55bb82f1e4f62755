-- Document 01, "Reading one image": what is seen of an image, and when it is refused.
use Rattle.std.specs.Prelude.{ℕ, suc, Bool, true, false, cond, not, ◌&&◌, ◌||◌, eqb, leb, ltb, length}
use Rattle.search.specs.Search.{lowest, all}
use Rattle.slices.specs.Parts.{Bytes}
use Rattle.record.specs.declared.Shape.{Shape}
use Rattle.record.specs.Layout.{is_witness}
use Rattle.record.specs.Meaning.{Header, proper, improper, first_index, Record, good, blank, bad, Entry, intact, broken}
use Rattle.image.specs.Refusal.{refuse, ◌else◌}
use Rattle.image.specs.Image.{Image, image_size, decode_image}
use Rattle.image.specs.declared.condition.Condition.{Condition}
use Rattle.image.specs.declared.condition.Condition.TheVariants.{Unused, Whole, RecordLost, Faulty, Lost, RecordOnly}

-- a condition's number: 0 to 2 as plan bytes and verdicts have them
abbrev pub condition_number : Condition → ℕ
condition_number Unused = 0
condition_number Whole = 1
condition_number RecordLost = 2
condition_number Faulty = 3
condition_number Lost = 4
condition_number RecordOnly = 5

-- a slot's condition, whatever its neighbours hold. `Lost` is refused by 6; `RecordOnly` is a used slot of a witness (02, Seven)
unfoldable pub condition : Record → Entry → Condition
condition (good e) (intact f p) = cond (eqb e f) Whole Faulty
condition (good e) (broken b) = Faulty
condition blank x = Unused
condition (bad b) (intact e p) = RecordLost
condition (bad b) (broken d) = Lost

-- a slot's epoch: its record's if good, else its entry's; 0 if unused
unfoldable pub epoch_of : Record → Entry → ℕ
epoch_of (good e) x = e
epoch_of blank x = 0
epoch_of (bad b) (intact e p) = e
epoch_of (bad b) (broken d) = 0

unfoldable pub condition_at : Image → ℕ → Condition
condition_at i k = condition (i.records k) (i.entries k)

unfoldable pub epoch_at : Image → ℕ → ℕ
epoch_at i k = epoch_of (i.records k) (i.entries k)

-- a slot with a record that is not blank is used
unfoldable pub is_blank : Record → Bool
is_blank (good e) = false
is_blank blank = true
is_blank (bad b) = false

unfoldable pub is_proper : Header → Bool
is_proper (proper first) = true
is_proper (improper b) = false

unfoldable pub is_unused : Condition → Bool
is_unused a = eqb (condition_number a) 0

unfoldable pub is_lost : Condition → Bool
is_lost a = eqb (condition_number a) 4

-- the log's length: used slots come first, or the image is refused by 5
unfoldable pub log_length : ℕ → Image → ℕ
log_length m i = lowest (λ k. is_blank (i.records k)) m

-- no used slot after a blank record
unfoldable pub no_gap : ℕ → Image → Bool
no_gap m i = all (λ k. ltb k (log_length m i) || is_blank (i.records k)) m

-- no bad record beside an entry that is not intact
unfoldable pub none_lost : ℕ → Image → Bool
none_lost m i = all (λ k. not (is_lost (condition_at i k))) m

-- no used slot's epoch below the one before it
unfoldable pub rising : ℕ → Image → Bool
rising m i = all (λ k. not (ltb (suc k) (log_length m i)) || leb (epoch_at i k) (epoch_at i (suc k))) m

-- refusals 4 to 7 refuse a single image
unfoldable pub image_refusal : ℕ → Image → ℕ
image_refusal m i =
    refuse 4 (not (is_proper i.header)) else refuse 5 (not (no_gap m i)) else refuse 6 (not (none_lost m i)) else refuse 7 (not (rising m i))

-- a cluster's allowed n: 3 to 7 (02, One)
unfoldable pub is_size : ℕ → Bool
is_size n = leb 3 n && leb n 7

unfoldable pub is_replica : ℕ → ℕ → Bool
is_replica n c = leb 1 c && leb c n

unfoldable pub is_slots : ℕ → Bool
is_slots m = leb 1 m && leb m 64

-- the editions (02, Six)
unfoldable pub is_edition : ℕ → Bool
is_edition e = leb 1 e && leb e 2

-- what the caller names is out of range
unfoldable pub named_refusal : Shape → ℕ → ℕ
named_refusal Z c = refuse 1 (not (is_slots Z.m)) else refuse 2 (not (is_size Z.n && is_edition Z.edition && is_replica Z.n c))

-- or the buffer has not so many bytes
unfoldable pub call_refusal : Shape → ℕ → ℕ → ℕ
call_refusal Z c size = named_refusal Z c else refuse 3 (not (eqb size (image_size Z c)))

-- the refusal of reading the image of replica c
unfoldable pub read_refusal : Shape → ℕ → Bytes → ℕ
read_refusal Z c b = call_refusal Z c (length b) else image_refusal Z.m (decode_image Z c b)

-- of a call for one kind of replica, cards or witnesses (02, Seven): 3 if the shape says that this one is of the other kind
unfoldable pub kind_refusal : Bool → Shape → ℕ → Bytes → ℕ
kind_refusal other Z c b = named_refusal Z c else refuse 3 other else read_refusal Z c b

abbrev pub card_refusal : Shape → ℕ → Bytes → ℕ
card_refusal Z c b = kind_refusal (is_witness Z c) Z c b

abbrev pub witness_refusal : Shape → ℕ → Bytes → ℕ
witness_refusal Z c b = kind_refusal (not (is_witness Z c)) Z c b

-- what planner and recovery see of a replica
pub record View : Type 0 where
  pub readable : Bool
  pub first : ℕ
  pub length : ℕ
  pub condition : ℕ → Condition
  pub epoch : ℕ → ℕ

-- a replica whose image is refused is unreadable, and treated as away
unfoldable pub view_of : Bool → ℕ → Image → View
view_of present m i = record {
  readable = present && eqb (image_refusal m i) 0;
  first = first_index i.header;
  length = log_length m i;
  condition = condition_at i;
  epoch = epoch_at i;
}

-- a witness stores records only (02, Seven): where it has a record, no entry is missing
unfoldable pub condition_as : Bool → Condition → Condition
condition_as false a = a
condition_as true Unused = Unused
condition_as true Whole = RecordOnly
condition_as true RecordLost = RecordOnly
condition_as true Faulty = RecordOnly
condition_as true Lost = Lost
condition_as true RecordOnly = RecordOnly

-- what is seen of a replica, a witness or not
unfoldable pub seen_as : Bool → View → View
seen_as witness v = record {
  readable = v.readable;
  first = v.first;
  length = v.length;
  condition = λ k. condition_as witness (v.condition k);
  epoch = v.epoch;
}
