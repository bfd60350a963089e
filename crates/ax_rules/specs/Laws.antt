-- The laws of histories and of places, over all of them.
use Rattle.std.specs.Prelude.{ℕ, ◌≡◌, ◌≤◌, ◌==◌, ◌&&◌, true, if◌then◌else◌, List, [], ◌∷◌, ◌++◌, Ok, is_some}
use Rattle.ax_tree.specs.declared.packet.Packet.{Packet}
use Rattle.ax_tree.specs.declared.packet.HEntry.{HEntry}
use Rattle.ax_tree.specs.declared.packet.HEntry.TheVariants.{Got}
use Rattle.ax_tree.specs.Tree.{empty}
use Rattle.ax_tree.specs.Updates.{applied_all}
use Rattle.ax_tree.specs.Packets.{IsGood}
use Rattle.ax_tree.specs.Forest.{Forest}
use Rattle.ax_base.specs.declared.position.Place.{Place}
use Rattle.ax_rules.specs.Histories.{is_gone, token_of, got, verdict_at, applied_pass, is_applied}
use Rattle.ax_rules.specs.Stitched.{stitched, has_place}
use Rattle.ax_rules.specs.Extents.{place_extent}
use Rattle.ax_rules.specs.Mirrors.{mirror_of, built_of, verdict_of, built_verdict_of}

-- a list begins with another
pub record Begins {A : Type 0} (whole front : List A) : Type 0 where
  pub rest : List A
  pub joined : whole ≡ front ++ rest

-- ---- no reader goes back

-- the packet that one more entry applies to the tree t
abbrev pub applied_by : ℕ → List HEntry → HEntry → List Packet
applied_by t before (Got p) = if p.tree == t && is_applied (verdict_at before (applied_pass before t) p []) then p ∷ [] else []
applied_by t before e = []

abbrev pub changes_from : ℕ → List HEntry → List HEntry → List Packet
changes_from t before [] = []
changes_from t before (e ∷ es) = applied_by t before e ++ changes_from t (before ++ e ∷ []) es

-- all packets that a history applies to t, in order
abbrev pub changes_of : List HEntry → ℕ → List Packet
changes_of h t = changes_from t [] h

-- the history h has all that g had of t: nothing comes back, and what changed t goes on from there
pub record GoesOn (g h : List HEntry) (t : ℕ) : Type 0 where
  pub gone : is_gone g t ≡ true → is_gone h t ≡ true
  pub token : token_of g t ≤ token_of h t
  pub packets : Begins (got h t) (got g t)
  pub changes : Begins (changes_of h t) (changes_of g t)
  pub pass : IsGood t (got h t) → applied_pass g t ≤ applied_pass h t

-- Each history goes on from each front of it.
abbrev pub EachHistoryGoesOn : Type 0
EachHistoryGoesOn = (front back : List HEntry) (t : ℕ) → GoesOn front (front ++ back) t

-- ---- bundles give the sources

-- Where a tree's received packets are good, what the applied bundles build is the source at the last applied pass.
abbrev pub BundlesGiveTheSource : Type 0
BundlesGiveTheSource = (h : List HEntry) (t : ℕ) → IsGood t (got h t) → built_of h t ≡ mirror_of h t

-- one more packet: the forest that builds and the one of mirrors have the same verdict, and a bundle that is to be applied is accepted
pub record Agrees (h : List HEntry) (p : Packet) : Type 0 where
  pub verdict : built_verdict_of h p ≡ verdict_of h p
  pub accepted : is_applied (verdict_of h p) ≡ true
      → applied_all p.bundle (if p.base.0 == 0 then empty p.tree else built_of h p.tree) ≡ Ok (mirror_of (h ++ Got p ∷ []) p.tree)

-- Where the received packets and the next one are good, no update that is in order is refused.
abbrev pub NoneInOrderIsRefused : Type 0
NoneInOrderIsRefused = (h : List HEntry) (p : Packet) → IsGood p.tree (got h p.tree ++ p ∷ []) → Agrees h p

-- ---- places

-- Each place of the joined list has an extent, so that bounds are never refused where the place is there.
abbrev pub EachPlaceHasAnExtent : Type 0
EachPlaceHasAnExtent = (f : Forest) (p : Place) → has_place (stitched f) p ≡ true → is_some (place_extent f p) ≡ true
