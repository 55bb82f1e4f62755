-- Where logs begin: no store writes a header, and an entry means the same on replicas whose logs begin at one index.
use Prim.Native.Nat.{ℕ, suc, ◌+◌, ◌<◌}
use mathlib.Core.Path.{◌≡◌, refl, sym, ap, ◌∙◌}
use mathlib.Core.Bool.{false}
use Rattle.search.proofs.UpdateLaws.{put_case}
use Rattle.slices.specs.Parts.{Bytes, part}
use Rattle.record.specs.declared.Shape.{Shape}
use Rattle.record.specs.Layout.{is_witness}
use Rattle.record.specs.Meaning.{first_index, good, blank, broken, read_entry}
use Rattle.image.specs.Image.{Image, index, entry_at}
use Rattle.image.specs.View.{view_of, seen_as}
use Rattle.image.specs.SetSlot.{set_record, set_entry}
use Rattle.image.specs.Cluster.{Cluster, image_at, image_part, first_at, decode}
use Rattle.image.proofs.DecodeLaws.{first_is}
use Rattle.image.proofs.ClusterLaws.{entry_means}
use Rattle.planner.specs.Setting.{Setting, views_of}
use Rattle.planner.specs.Plan.{views_in}
use Rattle.planner.proofs.FirstLaws.{view_first}
use Rattle.protocol.specs.Store.{Store, store_entry, store_record, store_blank}
use Rattle.protocol.specs.ClusterSteps.{after_store}
use Rattle.protocol.proofs.ReadyPlan.{ReadyPlan, ready_first}
use Rattle.protocol.proofs.Keeps.{Target}
use Rattle.protocol.proofs.Reach.{Torn, torn, Reach, reach_keeps}

-- slot k of replica d, read as one of c whose log begins there too
pub entry_as : (Z : Shape) (b : Bytes) (c d k : ℕ) → first_at Z b c ≡ first_at Z b d → is_witness Z (suc d) ≡ false → k < Z.m
    → (decode Z b d).entries k ≡ read_entry (index (first_at Z b c) k) (part b (image_at Z d + entry_at Z k) 240)
entry_as Z b c d k one card h = entry_means Z b d k card h ∙ ap (λ (z : ℕ). read_entry (index z k) (part b (image_at Z d + entry_at Z k) 240)) (sym one)

-- of a plan that is ready: where a readable replica's log begins
pub target_first : (S : Setting) (b : Bytes) → ReadyPlan S (views_of S (decode S.shape b)) → (c : ℕ) → Target S (decode S.shape b) c
    → first_at S.shape b c ≡ first_at S.shape b S.leader
unfolding views_in
target_first S b r c t = sym (view_first S b c) ∙ ready_first S (views_in S b) r c t.below t.ok ∙ view_first S b S.leader

-- ---- stores leave every header as it was

pub stored_header : (s : Store) (F : Cluster) (j : ℕ) → (after_store s F j).header ≡ (F j).header
unfolding after_store set_entry set_record
stored_header (store_entry c k d) F j = put_case (λ (i : Image). i.header ≡ (F j).header) F c (set_entry (F c) k ((F d).entries k)) j (λ q. rw q) (λ q. refl)
stored_header (store_record c k e) F j = put_case (λ (i : Image). i.header ≡ (F j).header) F c (set_record (F c) k (good e)) j (λ q. rw q) (λ q. refl)
stored_header (store_blank c k) F j = put_case (λ (i : Image). i.header ≡ (F j).header) F c (set_record (F c) k blank) j (λ q. rw q) (λ q. refl)

pub torn_header : (F G : Cluster) (s : Store) → Torn F s G → (j : ℕ) → (G j).header ≡ (F j).header
unfolding set_entry
torn_header F G s (torn {c} {k} {d} b) j = put_case (λ (i : Image). i.header ≡ (F j).header) F c (set_entry (F c) k (broken b)) j (λ q. rw q) (λ q. refl)

pub reach_header : (S : Setting) (F : Cluster) {G : Cluster} → Reach S F G → (j : ℕ) → (G j).header ≡ (F j).header
reach_header S F r =
    reach_keeps S (λ (G : Cluster). (j : ℕ) → (G j).header ≡ (F j).header)
    (λ G s h e j. stored_header s G j ∙ h j) (λ G E s h e t j. torn_header G E s t j ∙ h j) (λ j. refl) r

-- so every log begins where it began
pub stored_first : (S : Setting) (s : Store) (F : Cluster) (c : ℕ) → (views_of S (after_store s F) c).first ≡ (views_of S F c).first
unfolding views_of seen_as view_of
stored_first S s F c = ap first_index (stored_header s F c)

pub first_means : (Z : Shape) (b : Bytes) (c : ℕ) → first_at Z b c ≡ first_index (decode Z b c).header
unfolding first_at decode
first_means Z b c = sym (first_is Z (suc c) (image_part Z b c))

pub reach_first : (S : Setting) (b₀ b : Bytes) → Reach S (decode S.shape b₀) (decode S.shape b) → (c : ℕ) → first_at S.shape b c ≡ first_at S.shape b₀ c
reach_first S b₀ b r c =
    first_means S.shape b c ∙ ap first_index (reach_header S (decode S.shape b₀) r c) ∙ sym (first_means S.shape b₀ c)
