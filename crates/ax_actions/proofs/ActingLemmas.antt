-- Letters that were taken and done.
use Rattle.std.proofs.Common.{ℕ, zero, suc, ◌+◌, ◌<◌, ◌≤◌, ◌≡◌, ◌⊎◌, ⊎_elim, Bool, true, false, ◌==◌, if◌then◌else◌, filter, Result, Ok, Err, List, [], ◌∷◌, ◌++◌, map, flat_map, length, Option, Some, None, refl, sym, ap, ◌∙◌, subst, arith, append_assoc, append-nil, length-append, slice_index_or}
use Rattle.std.specs.Prelude.{IfOk, OnOk}
use Rattle.std.specs.List.{AllZip}
use Rattle.std.proofs.lemmas.Bool.{false≢true}
use Rattle.std.proofs.lemmas.List.{map-append}
use Rattle.std.proofs.lemmas.List.Concat.{flat_map-append}
use Rattle.ax_trees.proofs.Trees.{by_go}
use Rattle.ax_ask.specs.declared.action.Action.{Action}
use Rattle.ax_ask.specs.declared.line.Line.{Line}
use Rattle.ax_frame.specs.Frames.{Journaled}
use Rattle.ax_actions.specs.declared.hand.Letter.{Letter}
use Rattle.ax_actions.specs.declared.hand.Letter.TheVariants.{Do, End}
use Rattle.ax_actions.specs.declared.sharing.Share.{Share}
use Rattle.ax_actions.specs.declared.acting.Acted.{Acted}
use Rattle.ax_actions.specs.declared.acting.Job.{Job}
use Rattle.ax_actions.specs.declared.acting.Slot.{Slot}
use Rattle.ax_actions.specs.declared.acting.Slot.TheVariants.{Waits, Ends, Lacks}
use Rattle.ax_actions.specs.Ends.{Begins, PosterView, DoerView}
use Rattle.ax_actions.specs.Acting.{act_one, act_next, one_by_one, act_each, at_start, acted_of, all_acted, share_of, letters, IsPosted, IsReady, Reads, Takes, Serves, Comes, Works, IsWaiting, AreGathered}

-- ---- one worker

-- the letters taken so far are actions, and were done
pub record Serving (taken : List Letter) (a : Acted) (later : List Letter) (b : Acted) : Type 0 where
  pub own : List Action
  pub took : later ≡ taken ++ map Do own
  pub did : act_each own a ≡ b

pub serving_begins : (taken : List Letter) (a : Acted) → Serving taken a taken a
serving_begins taken a = record { own = []; took = sym (append-nil taken); did = refl }

each_more : (az : List Action) (a : Action) (s : Acted) → act_each (az ++ a ∷ []) s ≡ act_one (act_each az s) a
each_more [] a s = refl
each_more (b ∷ az) a s = each_more az a (act_one s b)

serving_more : (taken : List Letter) (a : Acted) (now later : List Letter) (b c : Acted) (x : Action) → Serving taken a now b → later ≡ now ++ Do x ∷ [] → c ≡ act_one b x → Serving taken a later c
serving_more taken a now later b c x h e d = record {
  own = h.own ++ x ∷ [];
  took = e ∙ (ap (λ l. l ++ Do x ∷ []) h.took ∙ (append_assoc taken (map Do h.own) (Do x ∷ []) ∙ ap (λ l. taken ++ l) (sym (map-append Do h.own (x ∷ [])))));
  did = each_more h.own x a ∙ (ap (λ s. act_one s x) h.did ∙ sym d);
}

serving_same : (taken : List Letter) (a : Acted) (now later : List Letter) (b c : Acted) → Serving taken a now b → later ≡ now → c ≡ b → Serving taken a later c
serving_same taken a now later b c h e d = record { own = h.own; took = e ∙ h.took; did = h.did ∙ sym d }

-- a turn that isn't the last one
pub serving_on : (taken : List Letter) (a : Acted) (now later : List Letter) (b c : Acted) (last : Bool) → Serving taken a now b → Takes now b last later c → last ≡ false → Serving taken a later c
serving_on taken a now later b c last h t n = ⊎_elim (λ (x : (last ≡ false) × (later ≡ now) × (c ≡ b)). serving_same taken a now later b c h x.1 x.2)
    (λ (x : (l : Letter) × (later ≡ now ++ l ∷ []) × Reads l last b c). of_letter x.0 x.1 x.2) t
  where
    of_letter : (l : Letter) → later ≡ now ++ l ∷ [] → Reads l last b c → Serving taken a later c
    of_letter (Do x) e r = serving_more taken a now later b c x h e r.1
    of_letter End e r = absurd (false≢true (sym n ∙ r.0))

-- the last turn
pub serving_ends : (taken : List Letter) (a : Acted) (now later : List Letter) (b c : Acted) (last : Bool) → Serving taken a now b → Takes now b last later c → last ≡ true → Serves taken a later c
serving_ends taken a now later b c last h t y = ⊎_elim (λ (x : (last ≡ false) × (later ≡ now) × (c ≡ b)). absurd (false≢true (sym x.0 ∙ y)))
    (λ (x : (l : Letter) × (later ≡ now ++ l ∷ []) × Reads l last b c). of_letter x.0 x.1 x.2) t
  where
    of_letter : (l : Letter) → later ≡ now ++ l ∷ [] → Reads l last b c → Serves taken a later c
    of_letter (Do x) e r = absurd (false≢true (sym r.0 ∙ y))
    of_letter End e r = record { own = h.own; took = e ∙ (ap (λ l. l ++ End ∷ []) h.took ∙ append_assoc taken (map Do h.own) (End ∷ [])); did = h.did ∙ sym r.1 }

-- letters end once
ends_once : (az bz : List Action) (rest : List Letter) → letters az ≡ letters bz ++ rest → az ≡ bz
ends_once [] [] rest e = refl
ends_once [] (b ∷ bz) rest e = absurd (cc)
ends_once (a ∷ az) [] rest e = absurd (cc)
ends_once (a ∷ az) (b ∷ bz) rest e =
    let first : a ≡ b = cc in
    let more : letters az ≡ letters bz ++ rest = cc in
    let same = ends_once az bz rest more in
    rw (first, same) refl

-- a worker that took all letters of its inbox did all that were posted
pub job_comes : (job : Job) (a : Acted) (taken : List Letter) (b : Acted) → a ≡ at_start job.frame → Serves job.doer.taken a taken b → Begins taken job.poster.posted → Comes job b
job_comes job a taken b e s g az posted none =
    let took : taken ≡ letters s.own = s.took ∙ ap (λ l. l ++ letters s.own) none in
    let same = ends_once az s.own g.rest (sym posted ∙ (g.goes_on ∙ ap (λ l. l ++ g.rest) took)) in
    sym s.did ∙ (ap (act_each s.own) e ∙ ap (λ l. act_each l (at_start job.frame)) (sym same))

-- ---- all workers

-- a slot of a share, once its worker has returned
abbrev HasEnded : Share → Slot → Type 0
HasEnded s (Ends acted) = acted ≡ act_each s.own (at_start s.frame)
HasEnded s Lacks = Unit {0}
HasEnded s (Waits job) = ⊥

ended_one : (s : Share) (t u : Slot) → IsWaiting s t → Works t u → HasEnded s u
ended_one s (Waits job) (Ends acted) p w = w s.own (ap (λ (v : PosterView). v.posted) p.poster) (ap (λ (v : DoerView). v.taken) p.doer) ∙ ap (λ j. act_each s.own (at_start j)) p.frame
ended_one s (Waits job) Lacks p w = tt
ended_one s (Waits job) (Waits other) p w = w
ended_one s (Ends acted) u p w = absurd p
ended_one s Lacks u p w = absurd p

pub all_ended : (shares : List Share) (ts us : List Slot) → AllZip IsWaiting shares ts → AllZip Works ts us → AllZip HasEnded shares us
all_ended [] [] [] p w = tt
all_ended [] [] (u ∷ us) p w = absurd w
all_ended [] (t ∷ ts) us p w = absurd p
all_ended (s ∷ shares) [] us p w = absurd p
all_ended (s ∷ shares) (t ∷ ts) [] p w = absurd w
all_ended (s ∷ shares) (t ∷ ts) (u ∷ us) p w = (ended_one s t u p.0 w.0, all_ended shares ts us p.1 w.1)

ends_are : (az : List Action) (js : List Journaled) (acted : List Acted) → AllZip HasEnded (map (share_of az) js) (map Ends acted) → acted ≡ all_acted az js
ends_are az [] [] h = refl
ends_are az [] (a ∷ acted) h = absurd h
ends_are az (j ∷ js) [] h = absurd h
ends_are az (j ∷ js) (a ∷ acted) h = let first = h.0 in let rest = ends_are az js acted h.1 in rw (first, rest) refl

-- ---- one after the other is frame by frame

abbrev all_of_its : List Action → Acted → Acted
all_of_its az s = act_each (filter (λ (a : Action). a.tree == s.frame.tree) az) s

nothing_more : (ss : List Acted) → map (all_of_its []) ss ≡ ss
nothing_more [] = refl
nothing_more (s ∷ ss) = ap (λ l. s ∷ l) (nothing_more ss)

one_more : (a : Action) (az : List Action) (s : Acted) → all_of_its az (if a.tree == s.frame.tree then act_one s a else s) ≡ all_of_its (a ∷ az) s
one_more a az s = by_go (a.tree == s.frame.tree) (λ q. rw q refl) (λ q. rw q refl)

next_more : (a : Action) (az : List Action) (ss : List Acted) → map (all_of_its az) (act_next ss a) ≡ map (all_of_its (a ∷ az)) ss
next_more a az [] = refl
next_more a az (s ∷ ss) =
    ap (λ l. all_of_its az (if a.tree == s.frame.tree then act_one s a else s) ∷ l) (next_more a az ss) ∙ ap (λ x. x ∷ map (all_of_its (a ∷ az)) ss) (one_more a az s)

each_its_own : (az : List Action) (ss : List Acted) → one_by_one az ss ≡ map (all_of_its az) ss
each_its_own [] ss = sym (nothing_more ss)
each_its_own (a ∷ az) ss = each_its_own az (act_next ss a) ∙ next_more a az ss

from_start : (az : List Action) (js : List Journaled) → map (all_of_its az) (map at_start js) ≡ all_acted az js
from_start az [] = refl
from_start az (j ∷ js) = ap (λ l. acted_of az j ∷ l) (from_start az js)

pub frame_by_frame : (az : List Action) (js : List Journaled) → all_acted az js ≡ one_by_one az (map at_start js)
frame_by_frame az js = sym (each_its_own az (map at_start js) ∙ from_start az js)

-- what was gathered is what the actions one after the other make
pub gathered_are : (az : List Action) (js : List Journaled) (shares : List Share) (ts us : List Slot) (frames : List Journaled) (lines : List Line) → shares ≡ map (share_of az) js → AllZip IsWaiting shares ts → AllZip Works ts us
    → AreGathered us frames lines → (frames ≡ map (λ (a : Acted). a.frame) (one_by_one az (map at_start js))) × (lines ≡ flat_map (λ (a : Acted). a.lines) (one_by_one az (map at_start js)))
gathered_are az js shares ts us frames lines e p w g =
    let h : AllZip HasEnded (map (share_of az) js) (map Ends g.acted) = subst (λ v. AllZip HasEnded v (map Ends g.acted)) e (subst (AllZip HasEnded shares) g.ended (all_ended shares ts us p w)) in
    let same = ends_are az js g.acted h ∙ frame_by_frame az js in
    (g.frames_are ∙ ap (map (λ (a : Acted). a.frame)) same, g.lines_are ∙ ap (flat_map (λ (a : Acted). a.lines)) same)

-- ---- gathering

pub gathered_none : (slots : List Slot) (frames : List Journaled) (lines : List Line) → slots ≡ [] → frames ≡ [] → lines ≡ [] → AreGathered slots frames lines
gathered_none slots frames lines e f l = record { acted = []; ended = e; frames_are = f; lines_are = l }

pub gathered_more : (slots : List Slot) (frames later : List Journaled) (lines more : List Line) (a : Acted) → later ≡ frames ++ a.frame ∷ [] → more ≡ lines ++ a.lines → AreGathered slots frames lines
    → AreGathered (slots ++ Ends a ∷ []) later more
gathered_more slots frames later lines more a f l g = record {
  acted = g.acted ++ a ∷ [];
  ended = ap (λ v. v ++ Ends a ∷ []) g.ended ∙ sym (map-append Ends g.acted (a ∷ []));
  frames_are = f ∙ (ap (λ v. v ++ a.frame ∷ []) g.frames_are ∙ sym (map-append (λ (x : Acted). x.frame) g.acted (a ∷ [])));
  lines_are = l ∙ (ap (λ v. v ++ a.lines) g.lines_are ∙ (ap (λ v. flat_map (λ (x : Acted). x.lines) g.acted ++ v) (sym (append-nil a.lines)) ∙ sym (flat_map-append (λ (x : Acted). x.lines) g.acted (a ∷ []))));
}

-- ---- slot by slot

pub zip_from : (R : Slot → Slot → Type 0) (xs ys : List Slot) → length xs ≡ length ys → ((i : ℕ) (d : Slot) → i < length xs → R (slice_index_or xs i d) (slice_index_or ys i d)) → AllZip R xs ys
zip_from R [] [] e h = tt
zip_from R [] (y ∷ ys) e h = absurd (omega (arith, e))
zip_from R (x ∷ xs) [] e h = absurd (omega (arith, e))
zip_from R (x ∷ xs) (y ∷ ys) e h = (h 0 x (omega arith), zip_from R xs ys (omega (arith, e)) (λ i d l. h (suc i) d (omega (arith, l))))

pub zip_push : {A B : Type 0} (R : A → B → Type 0) (xs : List A) (ys : List B) (x : A) (y : B) → AllZip R xs ys → R x y → AllZip R (xs ++ x ∷ []) (ys ++ y ∷ [])
zip_push R [] [] x y z r = (r, tt)
zip_push R [] (b ∷ ys) x y z r = absurd z
zip_push R (a ∷ xs) [] x y z r = absurd z
zip_push R (a ∷ xs) (b ∷ ys) x y z r = (z.0, zip_push R xs ys x y z.1 r)

-- what was gathered from the slots that the workers left
pub gathered_from : (az : List Action) (js : List Journaled) (shares : List Share) (slots ts us kept : List Slot) (frames : List Journaled) (lines : List Line) → shares ≡ map (share_of az) js → AllZip IsWaiting shares slots → ts ≡ slots → kept ≡ us
    → length us ≡ length ts → ((i : ℕ) (d : Slot) → i < length ts → Works (slice_index_or ts i d) (slice_index_or us i d)) → AreGathered kept frames lines
    → (frames ≡ map (λ (a : Acted). a.frame) (one_by_one az (map at_start js))) × (lines ≡ flat_map (λ (a : Acted). a.lines) (one_by_one az (map at_start js)))
gathered_from az js shares slots ts us kept frames lines e p t k n w g =
    gathered_are az js shares ts us frames lines e (subst (AllZip IsWaiting shares) (sym t) p) (zip_from Works ts us (sym n) w) (subst (λ v. AreGathered v frames lines) k g)

-- ---- what workers may begin with, and what they leave

ready_one : (s : Share) (t : Slot) → IsWaiting s t → IsReady t
ready_one s (Waits job) p = (ap (λ (v : PosterView). v.table) p.poster, ap (λ (v : DoerView). v.table) p.doer)
ready_one s (Ends acted) p = absurd p
ready_one s Lacks p = absurd p

pub all_ready : (shares : List Share) (ts : List Slot) (i : ℕ) (t : Slot) → AllZip IsWaiting shares ts → i < length ts → t ≡ slice_index_or ts i t → IsReady t
all_ready shares [] i t z l e = absurd (omega (arith, l))
all_ready [] (u ∷ ts) i t z l e = absurd z
all_ready (s ∷ shares) (u ∷ ts) zero t z l e = subst IsReady (sym e) (ready_one s u z.0)
all_ready (s ∷ shares) (u ∷ ts) (suc i) t z l e = all_ready shares ts i t z.1 (omega (arith, l)) e

pub works_same : (a b x y : Slot) → Works a b → a ≡ x → b ≡ y → Works x y
works_same a b x y w e h = subst (λ v. Works v y) e (subst (Works a) h w)

-- ---- results

pub if_ok_more : {A E : Type 0} (r : Result A E) (P Q : A → Type 0) → IfOk r P → ((x : A) → P x → Q x) → IfOk r Q
if_ok_more (Ok x) P Q h f = f x h
if_ok_more (Err e) P Q h f = tt

pub if_ok : {A E : Type 0} (r : Result A E) (P Q : Type 0) → OnOk r P → (P → Q) → IfOk r (λ _. Q)
if_ok (Ok x) P Q h f = f h
if_ok (Err e) P Q h f = tt

pub on_ok : {A E : Type 0} (r : Result A E) (P Q : Type 0) → OnOk r P → (P → Q) → OnOk r Q
on_ok (Ok x) P Q h f = f h
on_ok (Err e) P Q h f = tt
