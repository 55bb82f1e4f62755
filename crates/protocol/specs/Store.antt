-- The stores of recovery.
use Rattle.std.specs.Prelude.{ℕ, Bool, false, ◌&&◌, eqb}
use Rattle.slices.specs.Same.{same}
use Rattle.record.specs.Meaning.{Entry, intact, broken}

-- 01's store: the entry of slot k, copied to replica c from replica d; the record of slot k, written for epoch e; the record blanked
pub data Store : Type 0 where
  store_entry : (c k d : ℕ) → Store
  store_record : (c k e : ℕ) → Store
  store_blank : (c k : ℕ) → Store

-- the replica and the slot that a store is made on, and 01's kind
unfoldable pub store_replica : Store → ℕ
store_replica (store_entry c k d) = c
store_replica (store_record c k e) = c
store_replica (store_blank c k) = c

unfoldable pub store_slot : Store → ℕ
store_slot (store_entry c k d) = k
store_slot (store_record c k e) = k
store_slot (store_blank c k) = k

unfoldable pub store_kind : Store → ℕ
store_kind (store_entry c k d) = 1
store_kind (store_record c k e) = 2
store_kind (store_blank c k) = 3

-- two entries of one slot have the same bytes
unfoldable pub same_entry : Entry → Entry → Bool
same_entry (intact e p) (intact f q) = eqb e f && same p q
same_entry (intact e p) (broken b) = false
same_entry (broken a) (intact f q) = false
same_entry (broken a) (broken b) = same a b
