-- What a packet brings about, and why one is refused.
use Rattle.std.specs.Prelude.{ℕ, ◌≡◌, true, false, ◌==◌, if◌then◌else◌, List, [], ◌∷◌, ◌++◌, Ok, Err, Result}
use Rattle.ax_base.specs.declared.pass.Token.{Token}
use Rattle.ax_trees.specs.Lists.{contains}
use Rattle.ax_tree.specs.declared.packet.HEntry.{HEntry}
use Rattle.ax_tree.specs.declared.packet.HEntry.TheVariants.{Got}
use Rattle.ax_tree.specs.declared.packet.Packet.{Packet}
use Rattle.ax_tree.specs.declared.update.BundleErr.{BundleErr}
use Rattle.ax_tree.specs.declared.update.Refusal.TheVariants as refusal
use Rattle.ax_tree.specs.declared.verdict.Event.{Event}
use Rattle.ax_tree.specs.declared.verdict.Verdict.{Verdict}
use Rattle.ax_tree.specs.declared.verdict.Verdict.TheVariants.{Applied}
use Rattle.ax_tree.specs.Tree.{Tree, empty}
use Rattle.ax_tree.specs.Updates.{applied_all}
use Rattle.ax_tree.specs.Packets.{IsGood}
use Rattle.ax_tree.specs.Forest.{Forest, IsSoundTree}
use Rattle.ax_mirror.specs.Mirrors.{NamesChanges}
use Rattle.ax_rules.specs.Histories.{is_gone, token_of, applied_pass, got, verdict_at, is_applied}
use Rattle.ax_rules.specs.Mirrors.{built_of, built_verdict_of, mirror_of, verdict_of}
use Rattle.ax_forest.specs.declared.judging.Renewed.{Renewed}
use Rattle.ax_forest.specs.declared.fate.Fate.{Fate}
use Rattle.ax_forest.specs.declared.fate.Fate.TheVariants as fate
use Rattle.ax_forest.specs.declared.answers.ForestErr.{ForestErr}
use Rattle.ax_forest.specs.declared.answers.ForestErr.TheVariants.{NoTree, AlreadyGone, Refused, NoMemory}
use Rattle.ax_forest.specs.Shown.{MayFollow}

-- what the rule makes of the packet's bundle
abbrev pub bundle_gives : List HEntry → Packet → Result Tree BundleErr
bundle_gives h p = applied_all p.bundle (if p.base.0 == 0 then empty p.tree else built_of h p.tree)

-- a verdict other than Applied
pub record IsTold (h : List HEntry) (p : Packet) (v : Verdict) : Type 0 where
  pub is : (told : List Event) → verdict_at h (applied_pass h p.tree) p told ≡ v
  pub idle : is_applied v ≡ false

-- the packet is applied to a live tree, which is renewed so and keeps its token
pub record Renews (h : List HEntry) (p : Packet) (r : Renewed) (token : Token) : Type 0 where
  pub live : is_gone h p.tree ≡ false
  pub is : (told : List Event) → verdict_at h (applied_pass h p.tree) p told ≡ Applied p.pass told
  pub gives : bundle_gives h p ≡ Ok r.mirror
  pub told : Applied p.pass r.events ≡ built_verdict_of h p
  pub asked : token.0 ≡ token_of h p.tree

abbrev pub IsFateLive : List HEntry → Packet → Fate → Type 0
IsFateLive h p (fate.Told v) = IsTold h p v
IsFateLive h p (fate.Renewed r token) = Renews h p r token

abbrev pub IsFate : List ℕ → List HEntry → Packet → Fate → Type 0
IsFate ts h p f = (contains ts p.tree ≡ true) × IsFateLive h p f

abbrev pub IsRenewal : List ℕ → List HEntry → Packet → Renewed → Token → Type 0
IsRenewal ts h p r token = (contains ts p.tree ≡ true) × Renews h p r token

-- a renewed tree may take the place of the old one, whatever came before
abbrev pub FollowsTree : Tree → Fate → Type 0
FollowsTree old (fate.Told v) = Unit {0}
FollowsTree old (fate.Renewed r token) = NamesChanges old r.mirror r.touched × IsSoundTree old.about.tree r.mirror

abbrev pub FollowsIn : Forest → Packet → Fate → Type 0
FollowsIn f p (fate.Told v) = Unit {0}
FollowsIn f p (fate.Renewed r token) = MayFollow f p.tree r.mirror r.touched

-- its tree is there, and where it is applied, the new mirror is what the rule makes of the bundle
pub record IsTaken (ts : List ℕ) (h : List HEntry) (p : Packet) : Type 0 where
  pub known : contains ts p.tree ≡ true
  pub gives : is_applied (built_verdict_of h p) ≡ true → bundle_gives h p ≡ Ok (built_of (h ++ Got p ∷ []) p.tree)

-- the packets received from its tree, and this one, are good
abbrev pub ContinuesGood : List HEntry → Packet → Type 0
ContinuesGood h p = IsGood p.tree (got h p.tree ++ p ∷ [])

-- the verdict is that of the mirrors, and the tree built is the source at the last applied pass
pub record IsOfSource (h : List HEntry) (p : Packet) : Type 0 where
  pub verdict : built_verdict_of h p ≡ verdict_of h p
  pub source : built_of (h ++ Got p ∷ []) p.tree ≡ mirror_of (h ++ Got p ∷ []) p.tree

-- the packet would be applied, and the rule refuses its bundle
pub record IsRefused (h : List HEntry) (p : Packet) (e : BundleErr) : Type 0 where
  pub is : is_applied (built_verdict_of h p) ≡ true
  pub gives : bundle_gives h p ≡ Err e

abbrev pub IsWhyLive : List HEntry → Packet → ForestErr → Type 0
IsWhyLive h p (NoTree t) = ⊥
IsWhyLive h p (AlreadyGone t) = ⊥
IsWhyLive h p (Refused e) = IsRefused h p e
IsWhyLive h p NoMemory = Unit {0}

-- why a packet is refused
abbrev pub IsWhy : List ℕ → List HEntry → Packet → ForestErr → Type 0
IsWhy ts h p (NoTree t) = (t ≡ p.tree) × (contains ts p.tree ≡ false)
IsWhy ts h p (AlreadyGone t) = ⊥
IsWhy ts h p (Refused e) = (contains ts p.tree ≡ true) × IsRefused h p e
IsWhy ts h p NoMemory = contains ts p.tree ≡ true

abbrev pub IsNoRefusal : ForestErr → Type 0
IsNoRefusal (NoTree t) = Unit {0}
IsNoRefusal (AlreadyGone t) = Unit {0}
IsNoRefusal (Refused e) = ⊥
IsNoRefusal NoMemory = Unit {0}

-- the name of a refused bundle
abbrev pub IsWhyBroken : BundleErr → ForestErr → Type 0
IsWhyBroken e (NoTree t) = ⊥
IsWhyBroken e (AlreadyGone t) = ⊥
IsWhyBroken e (Refused d) = (d ≡ e) × (e.why ≡ refusal.NoMemory → ⊥)
IsWhyBroken e NoMemory = e.why ≡ refusal.NoMemory
