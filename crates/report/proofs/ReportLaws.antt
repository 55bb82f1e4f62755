-- What is printed of a plan, and when which refusal is.
use Prim.Native.Nat.{ℕ, suc, ◌+◌, ◌*◌, ◌-◌, ◌<◌, ◌≤◌}
use mathlib.Core.Path.{◌≡◌, refl, sym, ap, ap₂, ◌∙◌}
use mathlib.Core.Bool.{true}
use mathlib.Core.List.{List, ◌++◌}
use native.Mathlib.Omega.{arith}
use native.Mathlib.Numerals.{add-one}
use lib.ListN.{length, take, drop, get_or, length-drop}
use lib.Seq.{get_or-take, take_all}
use borrow.Author.Tests.{lt-ltb, le-ltb, ne_eqb}
use Rattle.search.specs.Search.{joined}
use Rattle.search.proofs.ListedLaws.{get_d_listed, joined_cong}
use Rattle.slices.specs.Parts.{Bytes}
use Rattle.record.specs.declared.Shape.{Shape}
use Rattle.image.specs.View.{View}
use Rattle.planner.specs.Setting.{Setting, setting_of}
use Rattle.planner.specs.Rules.{may_lead, answer}
use Rattle.planner.proofs.CallLaws.{lead_intro}
use Rattle.planner.specs.Plan.{views_in, plan_byte, plan_bytes, cluster_refusal}
use Rattle.planner.specs.Survey.{SurveyOf, Planned}
use Rattle.report.specs.Command.{command_line, present_of}
use Rattle.report.specs.Report.{refused_line, cluster_report, first_edition, command_report, report_of, head_line, slot_line, status_of, number_of, slot_lines, plan_lines, Prints}
use Rattle.report.specs.Lines.{line_from}
use Rattle.report.specs.declared.Present.{Present}
use Rattle.report.specs.declared.Command.{Command}
use Rattle.report.specs.declared.Command.TheVariants.{Well, Malformed}

pub prints : {x y page : Bytes} {count : ℕ} → x ≡ y → Prints x page count → Prints y page count
prints e h = record { fits = h.fits; bytes = h.bytes ∙ e }

module _
    (S : Setting) (W : ℕ → View) {n at readable : ℕ} {firsts lengths conditions epochs : List ℕ} (s : SurveyOf S W n at readable firsts lengths conditions epochs)
    {bytes : List ℕ} {final waiting : ℕ} (p : Planned S W bytes final waiting) where
  leads : may_lead S W ≡ true
  leads = lead_intro S W (rw s.leader_is s.leader_reads) (rw s.leader_is s.leader_card)

  plan_byte_lem : (k : ℕ) → k < S.shape.m → get_or bytes k 0 ≡ plan_byte S W k
  unfolding plan_bytes
  plan_byte_lem k h =
      sym (get_or-take S.shape.m bytes k 0 h) ∙ ap (λ (l : List ℕ). get_or l k 0) p.bytes_are ∙ get_d_listed S.shape.m (plan_byte S W) k 0 h

  lines_are : joined (get_or lengths at 0) (line_from epochs (at * 64) bytes) ≡ slot_lines S W
  unfolding slot_lines line_from
  lines_are =
      let from : at ≡ S.leader = sym s.leader_is in
      let len : get_or lengths at 0 ≡ (W S.leader).length = s.surveyed.length_is at s.leader_below s.leader_reads ∙ ap (λ (c : ℕ). (W c).length) from in
      let fits : (W S.leader).length ≤ S.shape.m = s.logs_fit S.leader in
      rw len
      (joined_cong (W S.leader).length _ _
      (λ k h. ap₂ (slot_line k)
      (s.surveyed.epoch_is at k s.leader_below (omega arith) s.leader_reads ∙ ap (λ (c : ℕ). (W c).epoch k) from)
      (plan_byte_lem k (omega arith))))

  pub waiting_lines : (leader : ℕ) → waiting < final
      → head_line n leader 1 (waiting + 1) ++ joined (get_or lengths at 0) (line_from epochs (at * 64) bytes) ≡ plan_lines n leader S W
  unfolding plan_lines answer status_of number_of
  waiting_lines leader h =
      rw (leads, s.same_firsts_lem, ← p.waiting_is, ← p.end_is, lt-ltb _ _ h, add-one) (ap (λ (x : Bytes). head_line n leader 1 (suc waiting) ++ x) lines_are)

  pub ready_lines : (leader : ℕ) → final ≤ waiting
      → head_line n leader 0 final ++ joined (get_or lengths at 0) (line_from epochs (at * 64) bytes) ≡ plan_lines n leader S W
  unfolding plan_lines answer status_of number_of
  ready_lines leader h =
      rw (leads, s.same_firsts_lem, ← p.waiting_is, ← p.end_is, le-ltb _ _ h) (ap (λ (x : Bytes). head_line n leader 0 final ++ x) lines_are)

-- ---- which line is printed for an input

module _ (Z : Shape) (leader present : ℕ) (b : Bytes) where
  pub refused_report : {r : ℕ} → r ≡ cluster_refusal Z leader present b → (r ≡ 0 → ⊥) → refused_line r ≡ cluster_report Z leader present b
  unfolding cluster_report
  refused_report e h = rw (← e, ne_eqb _ _ h) refl

  pub planned_report : cluster_refusal Z leader present b ≡ 0
      → plan_lines Z.n leader (setting_of Z leader present) (views_in (setting_of Z leader present) b) ≡ cluster_report Z leader present b
  unfolding cluster_report
  planned_report e = rw e refl

module _ (b : Bytes) where
  pub over_report : 65536 < length b → refused_line 3 ≡ report_of b
  unfolding report_of
  over_report h = rw (lt-ltb _ _ h) refl

  module _ (h : length b ≤ 65536) where
    pub malformed_report : {c : Command} → c ≡ command_line b → c ≡ Malformed → refused_line 14 ≡ report_of b
    unfolding report_of command_report
    malformed_report e k = rw (le-ltb _ _ h, ← e, k) refl

    pub well_report : {c : Command} {n m leader w : ℕ} {set : Present} → c ≡ command_line b → c ≡ Well n m leader set
        → w ≡ present_of n leader set → cluster_report (first_edition n m) leader w (take (length b - 14) (drop 14 b)) ≡ report_of b
    unfolding report_of command_report
    well_report {c} {n} {m} {leader} {w} {set} e k f =
        let all : take (length b - 14) (drop 14 b) ≡ drop 14 b = take_all (length b - 14) (drop 14 b) (rw length-drop (omega arith)) in
        rw (all, le-ltb _ _ h, ← e, k) (ap (λ (x : ℕ). cluster_report (first_edition n m) leader x (drop 14 b)) f)
