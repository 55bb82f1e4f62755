-- Laws of the two sums: their bounds, and how a scan of a slice steps through them.
use Prim.Native.Nat.{ℕ, suc, ◌+◌, ◌*◌, ◌%◌, ◌-◌, ◌<◌, ◌≤◌}
use mathlib.Core.Path.{◌≡◌, refl, sym, ◌∙◌, ap, ap₂}
use mathlib.Core.List.{List, [], ◌∷◌, ◌++◌}
use native.Mathlib.Omega.{arith}
use native.Mathlib.Numerals.{add-one}
use native.Mathlib.Nat.{mod-add-mod, add-mod-mod}
use lib.ListN.{length, take, drop, get_or, drop_of_length-le, take-append-drop}
use lib.Seq.{drop-cons, drop-drop}
use Rattle.checksum.specs.Checksum.{sum_a, sum_b, checksum_of}

pub sum_a_lt : (a : ℕ) (xs : List ℕ) → a < 65535 → sum_a a xs < 65535
unfolding sum_a
sum_a_lt a [] h = h
sum_a_lt a (x ∷ xs) h = sum_a_lt ((a + x) % 65535) xs (omega arith)

pub sum_b_lt : (a b : ℕ) (xs : List ℕ) → b < 65535 → sum_b a b xs < 65535
unfolding sum_b
sum_b_lt a b [] h = h
sum_b_lt a b (x ∷ xs) h = sum_b_lt ((a + x) % 65535) ((b + (a + x) % 65535) % 65535) xs (omega arith)

-- ---- some bytes, added up without a reduction

unfoldable pub plain_a : ℕ → List ℕ → ℕ
plain_a a [] = a
plain_a a (x ∷ xs) = plain_a (a + x) xs

unfoldable pub plain_b : ℕ → ℕ → List ℕ → ℕ
plain_b a b [] = b
plain_b a b (x ∷ xs) = plain_b (a + x) (b + (a + x)) xs

pub reduced_a : (a : ℕ) (xs ys : List ℕ) → sum_a (a % 65535) (xs ++ ys) ≡ sum_a (plain_a a xs % 65535) ys
unfolding sum_a plain_a
reduced_a a [] ys = refl
reduced_a a (x ∷ xs) ys = ap (λ (t : ℕ). sum_a t (xs ++ ys)) (mod-add-mod _ _ _) ∙ reduced_a (a + x) xs ys

pub reduced_b : (a b : ℕ) (xs ys : List ℕ) → sum_b (a % 65535) (b % 65535) (xs ++ ys) ≡ sum_b (plain_a a xs % 65535) (plain_b a b xs % 65535) ys
unfolding sum_b plain_a plain_b
reduced_b a b [] ys = refl
reduced_b a b (x ∷ xs) ys =
    ap₂ (λ (t u : ℕ). sum_b t u (xs ++ ys)) (mod-add-mod _ _ _) (simp (mod-add-mod, add-mod-mod) refl)
    ∙ reduced_b (a + x) (b + (a + x)) xs ys

pub chunk_step_a : (s : List ℕ) (x i : ℕ) → i < length s → sum_a (x % 65535) (drop i s) ≡ sum_a ((x + get_or s i 0) % 65535) (drop (i + 1) s)
unfolding plain_a
chunk_step_a s x i below = rw (add-one, drop-cons s i 0) (reduced_a x (get_or s i 0 ∷ []) (drop (suc i) s))

pub chunk_step_b : (s : List ℕ) (x y i : ℕ) → i < length s
    → sum_b (x % 65535) (y % 65535) (drop i s) ≡ sum_b ((x + get_or s i 0) % 65535) ((y + (x + get_or s i 0)) % 65535) (drop (i + 1) s)
unfolding plain_a plain_b
chunk_step_b s x y i below = rw (add-one, drop-cons s i 0) (reduced_b x y (get_or s i 0 ∷ []) (drop (suc i) s))

pub chunk_end_a : (s : List ℕ) (x i : ℕ) → length s ≤ i → sum_a (x % 65535) (drop i s) ≡ x % 65535
unfolding sum_a
chunk_end_a s x i h = rw (drop_of_length-le s h) refl

pub chunk_end_b : (s : List ℕ) (x y i : ℕ) → length s ≤ i → sum_b (x % 65535) (y % 65535) (drop i s) ≡ y % 65535
unfolding sum_b
chunk_end_b s x y i h = rw (drop_of_length-le s h) refl

-- ---- chunk after chunk

pub chunks_start_a : (s : List ℕ) (a : ℕ) → a ≡ 1 → sum_a a (drop 0 s) ≡ sum_a 1 s
chunks_start_a s a p = rw p refl

pub chunks_start_b : (s : List ℕ) (a b : ℕ) → a ≡ 1 → b ≡ 0 → sum_b a b (drop 0 s) ≡ sum_b 1 0 s
chunks_start_b s a b p q = rw (p, q) refl

pub sum_a_append : (a : ℕ) (xs ys : List ℕ) → sum_a a (xs ++ ys) ≡ sum_a (sum_a a xs) ys
unfolding sum_a
sum_a_append a [] ys = refl
sum_a_append a (x ∷ xs) ys = sum_a_append ((a + x) % 65535) xs ys

pub sum_b_append : (a b : ℕ) (xs ys : List ℕ) → sum_b a b (xs ++ ys) ≡ sum_b (sum_a a xs) (sum_b a b xs) ys
unfolding sum_a sum_b
sum_b_append a b [] ys = refl
sum_b_append a b (x ∷ xs) ys = sum_b_append ((a + x) % 65535) ((b + (a + x) % 65535) % 65535) xs ys

split : (s : List ℕ) (i e : ℕ) → i ≤ e → take (e - i) (drop i s) ++ drop e s ≡ drop i s
split s i e h =
    let k : i + (e - i) ≡ e = omega arith in
    rw (sym k, sym (drop-drop (e - i) i s)) (rw k (take-append-drop (e - i) (drop i s)))

pub chunks_a : (s : List ℕ) (a i e : ℕ) → i ≤ e → sum_a (sum_a a (take (e - i) (drop i s))) (drop e s) ≡ sum_a a (drop i s)
chunks_a s a i e h = sym (sum_a_append a (take (e - i) (drop i s)) (drop e s)) ∙ ap (sum_a a) (split s i e h)

pub chunks_b : (s : List ℕ) (a b i e : ℕ) → i ≤ e
    → sum_b (sum_a a (take (e - i) (drop i s))) (sum_b a b (take (e - i) (drop i s))) (drop e s) ≡ sum_b a b (drop i s)
chunks_b s a b i e h = sym (sum_b_append a b (take (e - i) (drop i s)) (drop e s)) ∙ ap (sum_b a b) (split s i e h)

pub chunks_end_a : (s : List ℕ) (a i : ℕ) → length s ≤ i → sum_a a (drop i s) ≡ sum_a 1 s → a ≡ sum_a 1 s
unfolding sum_a
chunks_end_a s a i h p = rw (drop_of_length-le s h) at p

pub chunks_end_b : (s : List ℕ) (a b i : ℕ) → length s ≤ i → sum_b a b (drop i s) ≡ sum_b 1 0 s → b ≡ sum_b 1 0 s
unfolding sum_b
chunks_end_b s a b i h p = rw (drop_of_length-le s h) at p

-- ---- the sums of all bytes, from u and v on

pub combined : (s : List ℕ) (a b u v : ℕ) → u ≡ 1 → v ≡ 0 → a ≡ sum_a u s → b ≡ sum_b u v s → b * 65536 + a ≡ checksum_of s
unfolding checksum_of
combined s a b u v hu hv p q = rw (p, q, hu, hv) refl

pub both_lt : (s : List ℕ) (a b u v : ℕ) → u ≡ 1 → v ≡ 0 → a ≡ sum_a u s → b ≡ sum_b u v s → (a < 65535) × (b < 65535)
both_lt s a b u v hu hv p q = rw (p, q, hu, hv) (sum_a_lt 1 s (omega arith), sum_b_lt 1 0 s (omega arith))
