-- Refusals by number: the lowest number that applies wins.
use Rattle.std.specs.Prelude.{ℕ, zero, suc, Bool, cond, eqb, Result, Ok, Err}
use Rattle.image.specs.declared.refusal.Refusal.{Refusal}
use Rattle.image.specs.declared.refusal.Refusal.TheVariants.{SlotCount, ReplicaCount, BufferLength, Header, UsedAfterBlank, BothLost, EpochFalls, AppendEpoch, AppendPayload, AppendFull, Present, Leader, LentLength, CommandLine, FirstIndex, FirstDiffers, Witnesses}

-- a refusal's number
abbrev pub refusal_number : Refusal → ℕ
refusal_number SlotCount = 1
refusal_number ReplicaCount = 2
refusal_number BufferLength = 3
refusal_number Header = 4
refusal_number UsedAfterBlank = 5
refusal_number BothLost = 6
refusal_number EpochFalls = 7
refusal_number AppendEpoch = 8
refusal_number AppendPayload = 9
refusal_number AppendFull = 10
refusal_number Present = 11
refusal_number Leader = 12
refusal_number LentLength = 13
refusal_number CommandLine = 14
refusal_number FirstIndex = 20
refusal_number FirstDiffers = 21
refusal_number Witnesses = 22

-- the number of a call's refusal, 0 if it has none
abbrev pub refusal_of : {A : Type 0} → Result A Refusal → ℕ
refusal_of (Ok v) = 0
refusal_of (Err r) = refusal_number r

infixr 20 ◌else◌
-- a refusal's number where it applies, and 0 where it does not
unfoldable pub refuse : ℕ → Bool → ℕ
refuse number applies = cond applies number 0

-- of two refusals in the order in which they are tried, the first that applies
unfoldable pub ◌else◌ : ℕ → ℕ → ℕ
zero else s = s
(suc r) else s = suc r

-- the new content of what a call was lent, or the new number; a refused call leaves the old
unfoldable pub unless_refused {ℓ} : {A : Type ℓ} → ℕ → A → A → A
unless_refused refusal new old = cond (eqb refusal 0) new old
