-- What documents 01 and 02 say of the planner's words, as a claim that the check demands.
use Rattle.std.specs.Prelude.{ℕ, suc, ◌+◌, ◌-◌, ◌/◌, ◌<◌, ◌≡◌, true, false, not, ◌&&◌, ◌||◌, eqb, leb, ltb, length}
use Rattle.search.specs.Search.{one_if, count}
use Rattle.slices.specs.Parts.{Bytes}
use Rattle.record.specs.declared.Shape.{Shape}
use Rattle.record.specs.Meaning.{good, blank}
use Rattle.image.specs.Image.{Image}
use Rattle.image.specs.View.{View, is_size, is_slots, is_edition, is_lost, condition_at, image_refusal, read_refusal}
use Rattle.image.specs.Verdict.{verdict_at}
use Rattle.image.specs.Read.{is_whole}
use Rattle.image.specs.Cluster.{Cluster, image_at, image_part, first_at}
use Rattle.search.specs.Sets.{has}
use Rattle.planner.specs.Setting.{Setting, setting_of, witness, views_of}
use Rattle.planner.specs.Rules.{majority, may_truncate, is_faulty, is_used, answers, have, have_faulty, dont_have, may_lead, same_firsts}
use Rattle.planner.specs.Plan.{views_in}

pub record AskingClaim : Type 0 where
  -- verdicts 3 and 4 together are called faulty, and 6 with them (02, Two); whole are 1 and 2; used are 1 to 4, and 6
  pub faulty : (m : ℕ) (i : Image) (k : ℕ)
      → is_faulty (condition_at i k) ≡ (eqb (verdict_at m i k) 3 || eqb (verdict_at m i k) 4 || eqb (verdict_at m i k) 6)
  pub whole : (m : ℕ) (i : Image) (k : ℕ) → is_whole (condition_at i k) ≡ (eqb (verdict_at m i k) 1 || eqb (verdict_at m i k) 2)
  pub used : (m : ℕ) (i : Image) (k : ℕ) → image_refusal m i ≡ 0 → k < m
      → is_used (condition_at i k) ≡ (leb 1 (verdict_at m i k) && leb (verdict_at m i k) 4 || eqb (verdict_at m i k) 6)
  -- a present replica whose own image is refused (1 to 7) is unreadable
  pub readable : (Z : Shape) (leader present : ℕ) (b : Bytes) (c : ℕ) → is_size Z.n ≡ true → is_edition Z.edition ≡ true → is_slots Z.m ≡ true
      → length b ≡ image_at Z Z.n → c < Z.n
      → (views_in (setting_of Z leader present) b c).readable ≡ has present c && eqb (read_refusal Z (suc c) (image_part Z b c)) 0
  -- a log begins where its own header says, in edition 1 at index 1; and there all begin at one index
  pub first : (S : Setting) (b : Bytes) (c : ℕ) → (views_in S b c).first ≡ first_at S.shape b c
  pub first_one : (S : Setting) (b : Bytes) (c : ℕ) → S.shape.edition ≡ 1 → (views_in S b c).first ≡ 1
  pub same_one : (S : Setting) (b : Bytes) → S.shape.edition ≡ 1 → same_firsts S (views_in S b) ≡ true
  -- a replica that is asked gives exactly one of the three answers, and no other replica gives one
  pub one_answer : (S : Setting) (W : ℕ → View) (k c : ℕ) → is_lost ((W c).condition k) ≡ false
      → one_if (have S W k c) + one_if (have_faulty S W k c) + one_if (dont_have S W k c) ≡ one_if (answers S W c)
  -- a witness answers have-faulty for a good record of the asked epoch, otherwise don't-have; it never donates and never leads (02, Seven)
  pub witness_good : (S : Setting) (F : Cluster) (k c e : ℕ) → witness S c ≡ true → answers S (views_of S F) c ≡ true → (F c).records k ≡ good e
      → have_faulty S (views_of S F) k c ≡ eqb e ((views_of S F S.leader).epoch k)
  pub witness_other : (S : Setting) (F : Cluster) (k c e : ℕ) → witness S c ≡ true → answers S (views_of S F) c ≡ true → (F c).records k ≡ good e
      → dont_have S (views_of S F) k c ≡ not (eqb e ((views_of S F S.leader).epoch k))
  pub witness_blank : (S : Setting) (F : Cluster) (k c : ℕ) → witness S c ≡ true → answers S (views_of S F) c ≡ true → (F c).records k ≡ blank
      → dont_have S (views_of S F) k c ≡ true
  pub witness_donates : (S : Setting) (F : Cluster) (k c : ℕ) → witness S c ≡ true → have S (views_of S F) k c ≡ false
  pub witness_leads : (S : Setting) (W : ℕ → View) → witness S S.leader ≡ true → may_lead S W ≡ false
  -- a majority is (n + 1) / 2 of an odd n; of four it is three and of six four (02, One)
  pub majority_odd : (k : ℕ) → majority (k + k + 1) ≡ (k + k + 1 + 1) / 2
  pub majority_four : majority 4 ≡ 3
  pub majority_six : majority 6 ≡ 4
  -- d of n are a majority exactly if they are more than half
  pub majority_is : (n d : ℕ) → leb (majority n) d ≡ ltb n (d + d)
  -- those that did not answer don't-have are n less the don't-haves; the leader is among them, and those that are away or unreadable (02, Eight)
  pub may_hold : (S : Setting) (W : ℕ → View) (k : ℕ) → count (λ c. not (dont_have S W k c)) S.shape.n ≡ S.shape.n - count (dont_have S W k) S.shape.n
  pub leader_may_hold : (S : Setting) (W : ℕ → View) (k : ℕ) → dont_have S W k S.leader ≡ false
  pub away_may_hold : (S : Setting) (W : ℕ → View) (k c : ℕ) → (W c).readable ≡ false → dont_have S W k c ≡ false
  -- d don't-haves cut exactly if they are half of n or more: a majority, as document 01 has it, or exactly half. For an odd n that is 01's rule
  pub cuts : (n d : ℕ) → may_truncate n d ≡ leb n (d + d)
  pub cuts_more : (n d : ℕ) → may_truncate n d ≡ (leb (majority n) d || eqb n (d + d))
  pub cuts_odd : (k d : ℕ) → may_truncate (k + k + 1) d ≡ leb (majority (k + k + 1)) d
