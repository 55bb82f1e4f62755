-- One or two changed bytes change the checksum: one in any list, two if they do not stand too far apart.
use Prim.Native.Nat.{ℕ, suc, ◌+◌, ◌*◌, ◌%◌, ◌-◌, ◌<◌, ◌≤◌}
use mathlib.Core.Path.{◌≡◌, refl, sym, ◌∙◌, ap}
use mathlib.Core.List.{List, [], ◌∷◌, ◌++◌, append_assoc}
use native.Mathlib.Omega.{arith}
use native.Mathlib.Decide.{dec_lt}
use native.Mathlib.Nat.{mod-add-mod, add-mod-mod, mul-le-mul_left}
use lib.ListN.{length, take, drop, get_or, set, length-drop, length-set}
use lib.Seq.{set_split, set-get_or, set-set, set_comm, take-take, take-set-lt, drop-set-lt, length-take-le}
use Rattle.checksum.specs.Checksum.{sum_a, sum_b, checksum_of}
use Rattle.checksum.proofs.SumLaws.{sum_a_lt, sum_b_lt, sum_a_append, sum_b_append}

pub checksum_lt : (xs : List ℕ) → checksum_of xs < 4294967296
unfolding checksum_of
checksum_lt xs = omega (arith, sum_a_lt 1 xs (omega arith), sum_b_lt 1 0 xs (omega arith))

-- both sums, from (a, b) over xs and from (c, d) over ys, are the same
record SameSums (a b : ℕ) (xs : List ℕ) (c d : ℕ) (ys : List ℕ) : Type 0 where
  first : sum_a a xs ≡ sum_a c ys
  second : sum_b a b xs ≡ sum_b c d ys

-- ---- equal bytes before the change

same_sums : (xs ys : List ℕ) → checksum_of xs ≡ checksum_of ys → SameSums 1 0 xs 1 0 ys
unfolding checksum_of
same_sums xs ys h = go (sum_a_lt 1 xs (omega arith)) (sum_a_lt 1 ys (omega arith))
  where
    go : sum_a 1 xs < 65535 → sum_a 1 ys < 65535 → SameSums 1 0 xs 1 0 ys
    go k l = record { first = omega arith; second = omega arith }

after : (u xs ys : List ℕ) → checksum_of (u ++ xs) ≡ checksum_of (u ++ ys) → SameSums (sum_a 1 u) (sum_b 1 0 u) xs (sum_a 1 u) (sum_b 1 0 u) ys
after u xs ys h =
    let s = same_sums (u ++ xs) (u ++ ys) h in
    record {
      first = sym (sum_a_append 1 u xs) ∙ s.first ∙ sum_a_append 1 u ys;
      second = sym (sum_b_append 1 0 u xs) ∙ s.second ∙ sum_b_append 1 0 u ys;
    }

-- ---- equal bytes after it carry equal sums back

cancel : (a b x : ℕ) → a < 65535 → b < 65535 → (a + x) % 65535 ≡ (b + x) % 65535 → a ≡ b
cancel a b x ha hb h = omega arith

back : (v : List ℕ) (a b c d : ℕ) → a < 65535 → b < 65535 → c < 65535 → d < 65535 → SameSums a b v c d v → (a ≡ c) × (b ≡ d)
unfolding sum_a sum_b
back [] a b c d ha hb hc hd s = (s.first, s.second)
back (x ∷ v) a b c d ha hb hc hd s =
    let r = back v ((a + x) % 65535) ((b + (a + x) % 65535) % 65535) ((c + x) % 65535) ((d + (c + x) % 65535) % 65535)
    (omega arith) (omega arith) (omega arith) (omega arith) (record { first = s.first; second = s.second }) in
    (cancel a c x ha hc r.0, cancel b d ((c + x) % 65535) hb hd (rw r.0 at r.1))

-- ---- equal bytes between two changes carry a difference z of the first sums on, and add it to that of the second for each byte

between_a : (a c z x : ℕ) → c ≡ (a + z) % 65535 → (c + x) % 65535 ≡ ((a + x) % 65535 + z) % 65535
between_a a c z x h = omega arith

between : (m : List ℕ) (a b c d z w : ℕ) → c ≡ (a + z) % 65535 → d ≡ (b + w) % 65535 → sum_b c d m ≡ (sum_b a b m + (w + length m * z)) % 65535
unfolding sum_b
between [] a b c d z w h k = k ∙ ap (λ (t : ℕ). t % 65535) (omega arith)
between (x ∷ m) a b c d z w h k =
    between m ((a + x) % 65535) ((b + (a + x) % 65535) % 65535) ((c + x) % 65535) ((d + (c + x) % 65535) % 65535) z (w + z) (between_a a c z x h)
    (rw (between_a a c z x h, k) (simp (mod-add-mod, add-mod-mod) (ap (λ (t : ℕ). t % 65535) (omega arith))))
    ∙ ap (λ (t : ℕ). (sum_b a b (x ∷ m) + t) % 65535) (omega arith)

-- ---- the changes, in a list that is split at them

one_apart : (u v : List ℕ) (p x : ℕ) → p < 256 → x < 256 → checksum_of (u ++ (x ∷ v)) ≡ checksum_of (u ++ (p ∷ v)) → x ≡ p
unfolding sum_a sum_b
one_apart u v p x hp hx h =
    let s = after u (x ∷ v) (p ∷ v) h in
    let r = back v _ _ _ _ (omega arith) (omega arith) (omega arith) (omega arith) (record { first = s.first; second = s.second }) in
    last (sum_a 1 u) r.0
  where
    last : (a : ℕ) → (a + x) % 65535 ≡ (a + p) % 65535 → x ≡ p
    last a e = omega arith

-- z is less than 256 and not too many bytes follow
nothing : (l b z : ℕ) → z ≤ 255 → suc l * 255 < 65535 → b < 65535 → b ≡ (b + (z + l * z)) % 65535 → z ≡ 0
nothing l b z hz far hb h = go (l * z) (mul-le-mul_left l hz) h
  where
    go : (t : ℕ) → t ≤ l * 255 → b ≡ (b + (z + t)) % 65535 → z ≡ 0
    go t k e = omega arith

-- the first of two changes, if it is upwards
upwards : (u m v : List ℕ) (p q x y : ℕ) → p ≤ x → x < 256 → suc (length m) * 255 < 65535
    → checksum_of (u ++ (x ∷ (m ++ (y ∷ v)))) ≡ checksum_of (u ++ (p ∷ (m ++ (q ∷ v)))) → x ≡ p
unfolding sum_a sum_b
upwards u m v p q x y up hx far h = go (sum_a 1 u) (sum_b 1 0 u) (sum_a_lt 1 u (omega arith)) (sum_b_lt 1 0 u (omega arith)) (after u _ _ h)
  where
    go : (a b : ℕ) → a < 65535 → b < 65535 → SameSums a b (x ∷ (m ++ (y ∷ v))) a b (p ∷ (m ++ (q ∷ v))) → x ≡ p
    go a b ha hb s =
        let a1 = (a + x) % 65535 in
        let a2 = (a + p) % 65535 in
        let b1 = (b + a1) % 65535 in
        let b2 = (b + a2) % 65535 in
        let r = back v _ _ _ _ (omega arith) (omega arith) (omega arith) (omega arith) (record {
          first = sym (sum_a_append a1 m (y ∷ v)) ∙ s.first ∙ sum_a_append a2 m (q ∷ v);
          second = sym (sum_b_append a1 b1 m (y ∷ v)) ∙ s.second ∙ sum_b_append a2 b2 m (q ∷ v);
        }) in
        let e : sum_b a1 b1 m ≡ sum_b a2 b2 m =
        cancel _ _ _ (sum_b_lt a1 b1 m (omega arith)) (sum_b_lt a2 b2 m (omega arith)) (rw r.0 at r.1) in
        let k : a1 ≡ (a2 + (x - p)) % 65535 = omega arith in
        let l : b1 ≡ (b2 + (x - p)) % 65535 = rw k (simp (mod-add-mod, add-mod-mod) (ap (λ (t : ℕ). t % 65535) (omega arith))) in
        let n = nothing (length m) (sum_b a2 b2 m) (x - p) (omega arith) far (sum_b_lt a2 b2 m (omega arith)) (sym e ∙ between m a2 b2 a1 b1 (x - p) (x - p) k l) in
        omega arith

two_apart : (u m v : List ℕ) (p q x y : ℕ) → p < 256 → q < 256 → x < 256 → y < 256 → suc (length m) * 255 < 65535
    → checksum_of (u ++ (x ∷ (m ++ (y ∷ v)))) ≡ checksum_of (u ++ (p ∷ (m ++ (q ∷ v)))) → (x ≡ p) × (y ≡ q)
two_apart u m v p q x y hp hq hx hy far h = (e, second e)
  where
    first : Dec (x < p) → x ≡ p
    first (yes k) = sym (upwards u m v x y p q (omega arith) hp far (sym h))
    first (no k) = upwards u m v p q x y (omega arith) hx far h

    e : x ≡ p
    e = first (dec_lt x p)

    second : x ≡ p → y ≡ q
    second e = one_apart (u ++ (p ∷ m)) v q y hq hy (simp append_assoc (rw e at h))

-- ---- the changes, as stores

pub one_change : (xs : List ℕ) (i x : ℕ) → i < length xs → get_or xs i 0 < 256 → x < 256 → checksum_of (set xs i x) ≡ checksum_of xs → x ≡ get_or xs i 0
one_change xs i x hi old new h =
    one_apart (take i xs) (drop (suc i) xs) _ x old new
    (ap checksum_of (sym (set_split xs i x hi)) ∙ h ∙ ap checksum_of (sym (set-get_or xs i 0) ∙ set_split xs i _ hi))

-- what stands between the changes
abbrev middle : List ℕ → ℕ → ℕ → List ℕ
middle xs i j = drop (suc i) (take j xs)

two_split : (xs : List ℕ) (i j x y : ℕ) → i < j → j < length xs
    → set (set xs i x) j y ≡ take i xs ++ (x ∷ (middle xs i j ++ (y ∷ drop (suc j) xs)))
two_split xs i j x y ij hj =
    set_split (set xs i x) j y (rw (length-set xs i x) hj)
    ∙ rw (take-set-lt j xs i x ij, drop-set-lt (suc j) xs i x (omega arith), set_split (take j xs) i x (rw (length-take-le j xs (omega arith)) ij), take-take i j xs (omega arith))
    (append_assoc (take i xs) (x ∷ middle xs i j) (y ∷ drop (suc j) xs))

pub two_changes : (xs : List ℕ) (i j x y : ℕ) → i < j → j < length xs → (j - i) * 255 < 65535
    → get_or xs i 0 < 256 → get_or xs j 0 < 256 → x < 256 → y < 256
    → checksum_of (set (set xs i x) j y) ≡ checksum_of xs → (x ≡ get_or xs i 0) × (y ≡ get_or xs j 0)
two_changes xs i j x y ij hj far oi oj hx hy h =
    two_apart (take i xs) (middle xs i j) (drop (suc j) xs) (get_or xs i 0) (get_or xs j 0) x y oi oj hx hy near
    (ap checksum_of (sym (two_split xs i j x y ij hj)) ∙ h ∙ ap checksum_of same)
  where
    near : suc (length (middle xs i j)) * 255 < 65535
    near = rw (length-drop, length-take-le j xs (omega arith)) (omega arith)

    same : xs ≡ take i xs ++ (get_or xs i 0 ∷ (middle xs i j ++ (get_or xs j 0 ∷ drop (suc j) xs)))
    same = sym (rw (set-get_or xs i 0, set-get_or xs j 0) refl) ∙ two_split xs i j (get_or xs i 0) (get_or xs j 0) ij hj

-- two stores in any order, at one place too, that leave the checksum leave every byte
pub stores_show : (xs : List ℕ) (i j x y : ℕ) → i < length xs → j < length xs → ((j - i) + (i - j)) * 255 < 65535
    → get_or xs i 0 < 256 → get_or xs j 0 < 256 → x < 256 → y < 256
    → checksum_of (set (set xs i x) j y) ≡ checksum_of xs → set (set xs i x) j y ≡ xs
stores_show xs i j x y hi hj far oi oj hx hy h = go (dec_lt i j) (dec_lt j i)
  where
    kept : (x ≡ get_or xs i 0) × (y ≡ get_or xs j 0) → set (set xs i x) j y ≡ xs
    kept e = rw (e.0, e.1, set-get_or xs i 0) (set-get_or xs j 0)

    go : Dec (i < j) → Dec (j < i) → set (set xs i x) j y ≡ xs
    go (yes a) b = kept (two_changes xs i j x y a hj (omega arith) oi oj hx hy h)
    go (no a) (yes b) =
        let r = two_changes xs j i y x b hi (omega arith) oj oi hy hx (ap checksum_of (set_comm xs j i y x (λ e. omega arith)) ∙ h) in
        kept (r.1, r.0)
    go (no a) (no b) =
        let e : j ≡ i = omega arith in
        let l = set-set xs i x y in
        let k : y ≡ get_or xs i 0 = one_change xs i y hi oi hy (sym (ap checksum_of l) ∙ rw e at h) in
        rw (e, l, k) (set-get_or xs i 0)
