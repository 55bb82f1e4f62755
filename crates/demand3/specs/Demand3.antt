-- Demand 3, whole: one statement about every list of planner, step and run calls.
use Rattle.std.specs.Prelude.{ℕ, ◌≡◌, List}
use Rattle.slices.specs.Parts.{Bytes}
use Rattle.image.specs.Cluster.{Cluster, decode, decode_with}
use Rattle.planner.specs.Setting.{Setting}
use Rattle.demand3.specs.Supposed.{History, Supposed}
use Rattle.demand3.specs.Before.{Flight, history_of, firsts_of, DamagedCluster}
use Rattle.demand3.specs.Cards.{WithoutWitnesses}
use Rattle.demand3.specs.CallList.{Request, CallList}
use Rattle.protocol.specs.Call.{Numbers, named}
use Rattle.demand3.specs.Claim.{Uncut, Runs, PartA, PartB}

pub record Demand3 : Type 0 where
  -- from every cluster: what an uncut call leaves, and how runs count and end
  pub uncut : (N : Numbers) (b : Bytes) → Uncut N b
  pub runs : (N : Numbers) (b : Bytes) → Runs N b
  -- part A: every cluster and every list, nothing supposed
  pub always : (N : Numbers) (qs : List Request) (b₀ b : Bytes) → CallList N qs b₀ b → PartA N b₀ b
  -- part B: a payload that stood committed on a majority, over histories, each image taken apart under its history's first index
  pub committed : (N : Numbers) (qs : List Request) (b₀ b : Bytes) (H : ℕ → History) (i e : ℕ) (p : Bytes)
      → Supposed (named N) (decode_with N.shape (λ c. (H c).first) b₀) H i e p → CallList N qs b₀ b → PartB N b₀ H i e p b
  -- a cluster before the damage, damaged as document 01 says, gives such histories
  pub damaged : (S : Setting) (F : Cluster) (f : ℕ → Flight) (G : Cluster) (i e : ℕ) (p : Bytes)
      → DamagedCluster S F f G i e p → Supposed S G (λ c. history_of S.shape.m (f c) (F c)) i e p
  -- so, in one sentence: cluster F stood as document 01 says, with f in flight, and damage left the bytes b₀; whatever list of calls is made
  -- from there, part B holds of every payload that F had committed on a majority
  pub demand : (N : Numbers) (qs : List Request) (F : Cluster) (f : ℕ → Flight) (b₀ b : Bytes) (i e : ℕ) (p : Bytes)
      → DamagedCluster (named N) F f (decode_with N.shape (firsts_of F) b₀) i e p → CallList N qs b₀ b
      → PartB N b₀ (λ c. history_of N.shape.m (f c) (F c)) i e p b
  -- without witnesses nothing more is supposed than document 01 says
  pub without_witnesses : WithoutWitnesses
  -- in edition 1 every log begins at 1, and an image taken apart under that index is the image
  pub edition_one : (N : Numbers) (firsts : ℕ → ℕ) (b : Bytes) (c : ℕ) → N.shape.edition ≡ 1 → firsts c ≡ 1
      → decode_with N.shape firsts b c ≡ decode N.shape b c
