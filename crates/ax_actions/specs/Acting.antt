-- The actions of frames, one after the other.
use Rattle.std.specs.Prelude.{ℕ, zero, suc, ◌≡◌, ◌⊎◌, ◌==◌, Bool, true, false, if◌then◌else◌, List, [], ◌∷◌, ◌++◌, filter, map, flat_map, slice_get, slice_set, Option, Some, None, option_map}
use Rattle.ax_ask.specs.declared.action.Action.{Action}
use Rattle.ax_ask.specs.declared.line.Line.{Line}
use Rattle.ax_frame.specs.Frames.{Journaled}
use Rattle.ax_run_rules.specs.Actions.{act_line}
use Rattle.ax_actions.specs.declared.hand.Letter.{Letter}
use Rattle.ax_actions.specs.declared.hand.Letter.TheVariants.{Do, End}
use Rattle.ax_actions.specs.declared.sharing.Share.{Share}
use Rattle.ax_actions.specs.declared.acting.Acted.{Acted}
use Rattle.ax_actions.specs.declared.acting.Job.{Job}
use Rattle.ax_actions.specs.declared.acting.Slot.{Slot}
use Rattle.ax_actions.specs.declared.acting.Slot.TheVariants.{Waits, Ends, Lacks}
use Rattle.ax_actions.specs.Performing.{done_now, after_done}

-- one action more
abbrev pub act_one : Acted → Action → Acted
act_one s a = record { frame = after_done (done_now a s.frame) s.frame; lines = s.lines ++ act_line a (done_now a s.frame).note ∷ [] }

-- the actions one after the other
abbrev pub act_each : List Action → Acted → Acted
act_each [] s = s
act_each (a ∷ az) s = act_each az (act_one s a)

abbrev pub at_start : Journaled → Acted
at_start j = record { frame = j; lines = [] }

-- one action more, at the frame of its tree
abbrev pub act_next : List Acted → Action → List Acted
act_next ss a = map (λ (s : Acted). if a.tree == s.frame.tree then act_one s a else s) ss

-- the actions one after the other, each at the frame of its tree
abbrev pub one_by_one : List Action → List Acted → List Acted
one_by_one [] ss = ss
one_by_one (a ∷ az) ss = one_by_one az (act_next ss a)

-- the actions of a frame's tree, in the list's order
abbrev pub own_of : List Action → Journaled → List Action
own_of az j = filter (λ (a : Action). a.tree == j.tree) az

-- a frame after its actions, and their lines
abbrev pub acted_of : List Action → Journaled → Acted
acted_of az j = act_each (own_of az j) (at_start j)

abbrev pub all_acted : List Action → List Journaled → List Acted
all_acted az js = map (acted_of az) js

-- ---- shares

abbrev pub with_own : List Action → Journaled → Share
with_own az j = record { frame = j; own = az }

abbrev pub share_of : List Action → Journaled → Share
share_of az j = with_own (own_of az j) j

abbrev pub with_one_more : Action → Share → Share
with_one_more a s = record { frame = s.frame; own = s.own ++ a ∷ [] }

-- the share at this place has the action too, if it is a place
abbrev pub Gives : Action → Option ℕ → List Share → List Share → Type 0
Gives a None old new = new ≡ old
Gives a (Some at) old new = (s : Share) × (slice_get old at ≡ Some s) × (new ≡ slice_set old at (with_one_more a s))

-- where an id stands first in a list
abbrev pub place_in : List ℕ → ℕ → Option ℕ
place_in [] t = None
place_in (x ∷ xs) t = if x == t then Some 0 else option_map suc (place_in xs t)

abbrev pub trees_in : List Share → List ℕ
trees_in shares = map (λ (s : Share). s.frame.tree) shares

-- ---- letters

-- what is posted of a frame's actions
abbrev pub letters : List Action → List Letter
letters az = map Do az ++ End ∷ []

-- a job of a frame whose letters are posted, and none taken
pub record IsPosted (az : List Action) (j : Journaled) (job : Job) : Type 0 where
  pub frame : job.frame ≡ j
  pub poster : job.poster ≡ record { table = job.inbox.table; posted = letters az }
  pub doer : job.doer ≡ record { table = job.inbox.table; taken = []; lulls = 0 }

-- a letter was read, which is the last one or not: its action was done
abbrev pub Reads : Letter → Bool → Acted → Acted → Type 0
Reads (Do x) last a b = (last ≡ false) × (b ≡ act_one a x)
Reads End last a b = (last ≡ true) × (b ≡ a)

-- no letter was there, or one was taken and read
abbrev pub Takes : List Letter → Acted → Bool → List Letter → Acted → Type 0
Takes taken a last later b = ((last ≡ false) × (later ≡ taken) × (b ≡ a)) ⊎ ((l : Letter) × (later ≡ taken ++ l ∷ []) × Reads l last a b)

-- from one list of taken letters to a later one, all letters were taken and their actions done
pub record Serves (taken : List Letter) (a : Acted) (later : List Letter) (b : Acted) : Type 0 where
  pub own : List Action
  pub took : later ≡ taken ++ letters own
  pub did : act_each own a ≡ b

-- the ends of a job's inbox are its own
abbrev pub HasEnds : Job → Type 0
HasEnds job = (job.poster.table ≡ job.inbox.table) × (job.doer.table ≡ job.inbox.table)

-- what a job comes to, whichever letters were posted
abbrev pub Comes : Job → Acted → Type 0
Comes job acted = (az : List Action) → job.poster.posted ≡ letters az → job.doer.taken ≡ [] → acted ≡ act_each az (at_start job.frame)

abbrev pub IsReady : Slot → Type 0
IsReady (Waits job) = HasEnds job
IsReady (Ends acted) = Unit {0}
IsReady Lacks = Unit {0}

-- what a worker leaves in a slot
abbrev pub Works : Slot → Slot → Type 0
Works (Waits job) (Ends acted) = Comes job acted
Works (Waits job) Lacks = Unit {0}
Works (Waits job) (Waits other) = ⊥
Works (Ends acted) t = Unit {0}
Works Lacks t = Unit {0}

abbrev pub IsWaiting : Share → Slot → Type 0
IsWaiting s (Waits job) = IsPosted s.own s.frame job
IsWaiting s (Ends acted) = ⊥
IsWaiting s Lacks = ⊥

-- all slots have ended, with these frames and lines
pub record AreGathered (slots : List Slot) (frames : List Journaled) (lines : List Line) : Type 0 where
  pub acted : List Acted
  pub ended : slots ≡ map Ends acted
  pub frames_are : frames ≡ map (λ (a : Acted). a.frame) acted
  pub lines_are : lines ≡ flat_map (λ (a : Acted). a.lines) acted
