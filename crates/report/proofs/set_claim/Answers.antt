-- The claim's parts are laws.
use Prim.Native.Nat.{ℕ, pred, ◌^◌, ◌<◌}
use mathlib.Core.Path.{◌≡◌, sym, ap, ◌∙◌}
use mathlib.Core.Bool.{true, true≢false}
use native.Mathlib.Omega.{arith}
use native.Mathlib.Decide.{dec_lt}
use lib.Dec.{eqb}
use lib.Pow.{pow_mono}
use Rattle.image.specs.View.{is_size, is_replica}
use Rattle.image.proofs.CallLaws.{size_high, replica_high}
use Rattle.report.proofs.CommandLaws.{leader_none, leader_own}
use Rattle.report.proofs.InputLaws.{printed_blank, printed_full}
use Rattle.report.proofs.AloneLaws.{one_member, alone_byte, whole_log}
use Rattle.report.proofs.SetRefusalLaws.{stray_refused, no_leader_refused}
use Rattle.report.proofs.set_claim.Goals as goal

-- the bit of one of at most seven fits the column
narrow : (n leader : ℕ) → is_size n ≡ true → is_replica n leader ≡ true → 2 ^ pred leader < 10000
narrow n leader s e = go (dec_lt n leader)
  where
    go : Dec (n < leader) → 2 ^ pred leader < 10000
    go (yes h) = absurd (true≢false (sym e ∙ replica_high n leader h))
    go (no h) = omega (arith, pow_mono {i = pred leader} {j = 7} (omega (arith, h, size_high n s)))

pub returns : goal.returns
returns c =
    record {
      full = λ Z leader x b w. printed_full Z leader b w x;
      blank = λ Z leader b w s e. printed_blank Z leader b w (leader_own Z.n leader s e) ∙ sym (printed_full Z leader b w _ (narrow Z.n leader s e));
      only = λ leader c. one_member (pred leader) c ∙ ap (eqb c) (omega arith);
      no_leader = λ Z leader b w e. printed_blank Z leader b w (leader_none Z.n leader e) ∙ no_leader_refused Z w.edition_one w.no_witnesses leader b e (omega arith);
      stray = λ Z leader x b w h s. printed_full Z leader b w x h ∙ stray_refused Z w.edition_one leader x b s (omega arith);
      uncut = whole_log;
      waits = λ Z leader b k s h. alone_byte Z leader b s k h (omega arith);
    }
