-- The states that runs begin with, and those that they go on from.
use Rattle.std.proofs.Common.{ℕ, zero, suc, ◌≡◌, ◌≤◌, ◌==◌, Bool, true, false, ◌||◌, if◌then◌else◌, List, [], ◌∷◌, ◌++◌, length, map, drop, slice_get, refl, sym, ap, ap₂, ◌∙◌, subst, true≢false, append_assoc, append-nil, arith, ◌<◌, get_or, Option, Some, None, Result, Ok, Err, OnOk}
use Rattle.std.specs.Prelude.{option_map, slice_set}
use Rattle.std.specs.List.{All}
use Rattle.std.proofs.lemmas.Bool.{eqb-true}
use Rattle.std.proofs.lemmas.List.{length-map}
use Rattle.std.proofs.lemmas.Option.{slice_get-get_or}
use Rattle.std.proofs.lemmas.List.Elements.{All-nil, All-cons, All-head, All-tail, filter-append}
use Rattle.ax_base.specs.declared.seq.NoMemory.{NoMemory}
use Rattle.ax_trees.specs.Lists.{contains, NoneTwice}
use Rattle.ax_tree.specs.declared.packet.Packet.{Packet}
use Rattle.ax_tree.specs.declared.packet.HEntry.{HEntry}
use Rattle.ax_tree.specs.Journals.{is_short}
use Rattle.ax_laws.proofs.GoodPackets.{fits_new}
use Rattle.ax_ask.specs.declared.op.TimedOp.{TimedOp}
use Rattle.ax_ask.specs.declared.query.TimedQuery.{TimedQuery}
use Rattle.ax_ask.specs.Calls.{HaveLeaves, AllNamed}
use Rattle.ax_script.specs.declared.script.FrameScript.{FrameScript as ReadFrame}
use Rattle.ax_script.specs.declared.script.Script.{Script as Read}
use Rattle.ax_script.specs.Sound.{HasLeaves, trees_in}
use Rattle.ax_frame.specs.Frames.{Journaled}
use Rattle.ax_frame.specs.declared.counts.Counts.{Counts}
use Rattle.ax_forest.specs.declared.parts.ForestParts.{ForestParts}
use Rattle.ax_rules.specs.Histories.{got}
use Rattle.ax_run_rules.specs.States.{FrameRun, State, start, trees_of}
use Rattle.ax_run_laws.proofs.Found.{same_number, some_same}
use Rattle.ax_run_rules.specs.Scripts.{FrameScript}
use Rattle.ax_core.specs.FrameRuns.{IsFitting}
use Rattle.ax_core.specs.Places.{place_of}
use Rattle.ax_core.specs.Standing.{IsKept, IsWhole, state_of}
use Rattle.ax_core.specs.Starting.{CanRun, CanResume, AreWithin, script_in, frame_in, first_frame, of_tree, resumed, resumed_frames, resumed_readers, seats_by, readers_by, put_in, put_all}
use Rattle.ax_core.proofs.Listed.{place_below}

abbrev tree_in : FrameRun → ℕ
tree_in f = f.tree

abbrev read_tree : ReadFrame → ℕ
read_tree f = f.tree

-- a state by its parts
pub state_is : (fs gs : List FrameRun) (bs cs : List TimedOp) (rs qs : List (List TimedQuery)) (h k : List HEntry) → fs ≡ gs → bs ≡ cs → rs ≡ qs → h ≡ k → state_of fs bs rs h ≡ state_of gs cs qs k
state_is fs gs bs cs rs qs h k e b r s =
    ap₂ (λ (x : List FrameRun) (y : List TimedOp). state_of x y rs h) e b ∙ ap₂ (λ (x : List (List TimedQuery)) (y : List HEntry). state_of gs cs x y) r s

kept_is : (s m : State) (ps qs ts us : List ℕ) → s ≡ m → ps ≡ qs → ts ≡ us → IsKept m qs us → IsKept s ps ts
kept_is s m ps qs ts us e p t k = subst (λ (x : State). IsKept x ps ts) (sym e) (subst (λ l. IsKept m l ts) (sym p) (subst (λ l. IsKept m qs l) (sym t) k))

-- ---- the start of a script

first_trees : (fs : List ReadFrame) → map tree_in (map first_frame fs) ≡ map read_tree fs
first_trees [] = refl
first_trees (f ∷ fs) = ap (λ l. f.tree ∷ l) (first_trees fs)

first_leaves : (fs : List ReadFrame) → All HasLeaves fs → All (λ (f : FrameRun). HaveLeaves f.left) (map first_frame fs)
first_leaves [] a = All-nil (λ (f : FrameRun). HaveLeaves f.left)
first_leaves (f ∷ fs) a = All-cons (λ (x : FrameRun). HaveLeaves x.left) (first_frame f) (map first_frame fs) (All-head HasLeaves f fs a) (first_leaves fs (All-tail HasLeaves f fs a))

first_fits : (f : ReadFrame) → IsFitting [] (first_frame f)
unfolding got
first_fits f = fits_new f.tree

first_fitting : (fs : List ReadFrame) → All (IsFitting []) (map first_frame fs)
first_fitting [] = All-nil (IsFitting [])
first_fitting (f ∷ fs) = All-cons (IsFitting []) (first_frame f) (map first_frame fs) (first_fits f) (first_fitting fs)

first_whole : (fs : List ReadFrame) → All (λ (f : FrameRun). is_short f.tree f.journal ≡ false) (map first_frame fs)
first_whole [] = All-nil (λ (f : FrameRun). is_short f.tree f.journal ≡ false)
first_whole (f ∷ fs) = All-cons (λ (x : FrameRun). is_short x.tree x.journal ≡ false) (first_frame f) (map first_frame fs) refl (first_whole fs)

abbrev first_state : Read → State
first_state s = state_of (map first_frame s.frames) s.browser s.readers []

first_kept : (s : Read) → CanRun s → IsKept (first_state s) (trees_in s) (trees_in s)
first_kept s c =
    let same = first_trees s.frames in
    record {
      places = sym same;
      trees = sym same;
      stands = record {
        some = subst (λ n. 1 ≤ n) (sym (length-map s.frames first_frame)) c.some;
        apart = subst (λ l. NoneTwice l) (sym same) c.apart;
        named = subst (λ l. AllNamed l s.browser) (sym same) c.named;
        leaves = first_leaves s.frames c.leaves;
        fitting = first_fitting s.frames;
      };
    }

-- what a new run keeps, by what it was made of
pub new_kept : (s : Read) (fs : List FrameRun) (bs : List TimedOp) (rs : List (List TimedQuery)) (h : List HEntry) (ps ts : List ℕ) → CanRun s → fs ≡ map first_frame s.frames → bs ≡ s.browser → rs ≡ s.readers → h ≡ []
    → ps ≡ trees_in s → ts ≡ trees_in s → IsKept (state_of fs bs rs h) ps ts
new_kept s fs bs rs h ps ts c e b r k p t = kept_is _ (first_state s) ps (trees_in s) ts (trees_in s) (state_is _ _ _ _ _ _ _ _ e b r k) p t (first_kept s c)

read_frames : (fs : List ReadFrame) (gs : List FrameRun) → gs ≡ map first_frame fs → gs ≡ map (λ (f : FrameScript). record { tree = f.tree; left = f.ops; journal = []; waiting = [] }) (map frame_in fs)
read_frames fs gs e = e ∙ go fs
  where
    go : (xs : List ReadFrame) → map first_frame xs ≡ map (λ (f : FrameScript). record { tree = f.tree; left = f.ops; journal = []; waiting = [] }) (map frame_in xs)
    go [] = refl
    go (x ∷ xs) = ap (λ l. first_frame x ∷ l) (go xs)

pub new_state : (s : Read) (fs : List FrameRun) (bs : List TimedOp) (rs : List (List TimedQuery)) (h : List HEntry) → fs ≡ map first_frame s.frames → bs ≡ s.browser → rs ≡ s.readers → h ≡ [] → state_of fs bs rs h ≡ start (script_in s)
unfolding start
new_state s fs bs rs h e b r k = state_is _ _ _ _ _ _ _ _ (read_frames s.frames fs e) b r k

pub new_whole : (s : Read) (fs : List FrameRun) (bs : List TimedOp) (rs : List (List TimedQuery)) (h : List HEntry) → fs ≡ map first_frame s.frames → IsWhole (state_of fs bs rs h)
new_whole s fs bs rs h e = subst (λ l. All (λ (f : FrameRun). is_short f.tree f.journal ≡ false) l) (sym e) (first_whole s.frames)

-- ---- packets put behind those of their trees

pub put_trees : (ps : List Packet) (fs : List FrameRun) → map tree_in (map (put_all ps) fs) ≡ map tree_in fs
put_trees ps [] = refl
put_trees ps (f ∷ fs) = ap (λ l. f.tree ∷ l) (put_trees ps fs)

none_put : (fs : List FrameRun) → map (put_all []) fs ≡ fs
none_put [] = refl
none_put (f ∷ fs) = ap₂ (λ (x : FrameRun) (l : List FrameRun). x ∷ l) (ap (λ ws. record f { waiting = ws }) (append-nil f.waiting)) (none_put fs)

one_put : (ps : List Packet) (p : Packet) (f : FrameRun) → put_in p (put_all ps f) ≡ put_all (ps ++ p ∷ []) f
one_put ps p f = go (p.tree == f.tree) refl
  where
    more : (b : Bool) → (p.tree == f.tree) ≡ b → of_tree f.tree (ps ++ p ∷ []) ≡ of_tree f.tree ps ++ (if b then p ∷ [] else [])
    more b e = filter-append (λ (q : Packet). q.tree == f.tree) ps (p ∷ []) ∙ ap (λ c. of_tree f.tree ps ++ (if c then p ∷ [] else [])) e

    go : (b : Bool) → (p.tree == f.tree) ≡ b → (if b then record f { waiting = (f.waiting ++ of_tree f.tree ps) ++ p ∷ [] } else put_all ps f) ≡ put_all (ps ++ p ∷ []) f
    go true e = ap (λ ws. record f { waiting = ws }) (append_assoc f.waiting (of_tree f.tree ps) (p ∷ []) ∙ ap (λ l. f.waiting ++ l) (sym (more true e)))
    go false e = ap (λ ws. record f { waiting = f.waiting ++ ws }) (sym (more false e ∙ append-nil (of_tree f.tree ps)))

pub all_put : (ps : List Packet) (p : Packet) (fs : List FrameRun) → map (put_in p) (map (put_all ps) fs) ≡ map (put_all (ps ++ p ∷ [])) fs
all_put ps p [] = refl
all_put ps p (f ∷ fs) = ap₂ (λ (x : FrameRun) (l : List FrameRun). x ∷ l) (one_put ps p f) (all_put ps p fs)

-- what the loop over packets has done
pub puts_begun : (fs : List FrameRun) → fs ≡ map (put_all []) fs
puts_begun fs = sym (none_put fs)

pub puts_onward : (ps : List Packet) (p : Packet) (fs gs hs : List FrameRun) → gs ≡ map (put_all ps) fs → hs ≡ map (put_in p) gs → hs ≡ map (put_all (ps ++ p ∷ [])) fs
puts_onward ps p fs gs hs e k = k ∙ (ap (map (put_in p)) e ∙ all_put ps p fs)

pub puts_places : (ps : List Packet) (places : List ℕ) (fs gs : List FrameRun) → places ≡ map tree_in fs → gs ≡ map (put_all ps) fs → places ≡ map tree_in gs
puts_places ps places fs gs p e = p ∙ (sym (put_trees ps fs) ∙ ap (map tree_in) (sym e))

other_way : (a b : ℕ) → (a == b) ≡ false → (b == a) ≡ false
other_way a b h = grind (arith, h)

-- a packet of a tree that no frame has
not_put : (p : Packet) (fs : List FrameRun) → contains (map tree_in fs) p.tree ≡ false → map (put_in p) fs ≡ fs
not_put p [] n = refl
not_put p (f ∷ fs) n = go (f.tree == p.tree) refl n (λ m. not_put p fs m)
  where
    go : (b : Bool) → (f.tree == p.tree) ≡ b → (b || contains (map tree_in fs) p.tree) ≡ false → (contains (map tree_in fs) p.tree ≡ false → map (put_in p) fs ≡ fs) → put_in p f ∷ map (put_in p) fs ≡ f ∷ fs
    go true e m ih = absurd (true≢false m)
    go false e m ih = ap₂ (λ (x : FrameRun) (l : List FrameRun). x ∷ l) (ap (λ b. if b then record f { waiting = f.waiting ++ p ∷ [] } else f) (other_way f.tree p.tree e)) (ih m)

nowhere : (ts : List ℕ) (t : ℕ) → place_of ts t ≡ None → contains ts t ≡ false
nowhere [] t h = refl
nowhere (x ∷ ts) t h = go (x == t) (place_of ts t) (λ e. nowhere ts t e) h
  where
    go : (b : Bool) (o : Option ℕ) → (o ≡ None → contains ts t ≡ false) → (if b then Some 0 else option_map suc o) ≡ None → (b || contains ts t) ≡ false
    go true o ih k = absurd (let no : ⊥ = cc in no)
    go false None ih k = ih refl
    go false (Some i) ih k = absurd (let no : ⊥ = cc in no)

pub put_nowhere : (p : Packet) (ts : List ℕ) (fs : List FrameRun) → ts ≡ map tree_in fs → place_of ts p.tree ≡ None → fs ≡ map (put_in p) fs
put_nowhere p ts fs e h = sym (not_put p fs (ap (λ l. contains l p.tree) (sym e) ∙ nowhere ts p.tree h))

put_here : (p : Packet) (x f g : FrameRun) (fs : List FrameRun) → (x.tree == p.tree) ≡ true → contains (map tree_in fs) x.tree ≡ false → x ≡ f → g ≡ record f { waiting = f.waiting ++ p ∷ [] }
    → g ∷ fs ≡ put_in p x ∷ map (put_in p) fs
put_here p x f g fs b n same e =
    let own : x.tree ≡ p.tree = eqb-true x.tree p.tree b in
    let test : (p.tree == x.tree) ≡ true = ap (λ t. p.tree == t) own ∙ same_number p.tree in
    ap₂ (λ (y : FrameRun) (l : List FrameRun). y ∷ l)
    (e ∙ (ap (λ (y : FrameRun). record y { waiting = y.waiting ++ p ∷ [] }) (sym same) ∙ sym (ap (λ c. if c then record x { waiting = x.waiting ++ p ∷ [] } else x) test)))
    (sym (not_put p fs (ap (contains (map tree_in fs)) (sym own) ∙ n)))

put_placed : (p : Packet) (fs : List FrameRun) (i : ℕ) (f g : FrameRun) → NoneTwice (map tree_in fs) → place_of (map tree_in fs) p.tree ≡ Some i → slice_get fs i ≡ Some f → g ≡ record f { waiting = f.waiting ++ p ∷ [] }
    → slice_set fs i g ≡ map (put_in p) fs
put_placed p [] i f g n h here e = absurd (let no : ⊥ = cc in no)
put_placed p (x ∷ fs) zero f g n h here e = go (x.tree == p.tree) refl (place_of (map tree_in fs) p.tree) h
  where
    go : (b : Bool) → (x.tree == p.tree) ≡ b → (o : Option ℕ) → (if b then Some 0 else option_map suc o) ≡ Some 0 → g ∷ fs ≡ put_in p x ∷ map (put_in p) fs
    go true y o m = put_here p x f g fs y n.0 (some_same x f here) e
    go false y None m = absurd (let no : ⊥ = cc in no)
    go false y (Some k) m = absurd (let z : suc k ≡ 0 = cc in omega (arith, z))
put_placed p (x ∷ fs) (suc i) f g n h here e = go (x.tree == p.tree) refl (place_of (map tree_in fs) p.tree) h (λ k. put_placed p fs i f g n.1 k here e)
  where
    go : (b : Bool) → (x.tree == p.tree) ≡ b → (o : Option ℕ) → (if b then Some 0 else option_map suc o) ≡ Some (suc i) → (o ≡ Some i → slice_set fs i g ≡ map (put_in p) fs) → x ∷ slice_set fs i g ≡ put_in p x ∷ map (put_in p) fs
    go true y o m ih = absurd (let z : 0 ≡ suc i = cc in omega (arith, z))
    go false y None m ih = absurd (let no : ⊥ = cc in no)
    go false y (Some k) m ih =
        let z : suc k ≡ suc i = cc in
        let same : k ≡ i = omega (arith, z) in
        ap₂ (λ (u : FrameRun) (l : List FrameRun). u ∷ l) (sym (ap (λ b. if b then record x { waiting = x.waiting ++ p ∷ [] } else x) (other_way x.tree p.tree y))) (ih (ap Some same))

pub put_at_place : (p : Packet) (ts : List ℕ) (fs gs : List FrameRun) (i : ℕ) (f g : FrameRun) → ts ≡ map tree_in fs → NoneTwice ts → place_of ts p.tree ≡ Some i → slice_get fs i ≡ Some f → g ≡ record f { waiting = f.waiting ++ p ∷ [] }
    → gs ≡ slice_set fs i g → gs ≡ map (put_in p) fs
put_at_place p ts fs gs i f g e n h here new k =
    k ∙ put_placed p fs i f g (subst (λ l. NoneTwice l) e n) (ap (λ l. place_of l p.tree) (sym e) ∙ h) here new

pub seat_within : (ps : List ℕ) (fs : List FrameRun) (t i : ℕ) → ps ≡ map tree_in fs → Some i ≡ place_of ps t → i < length fs
seat_within ps fs t i e h = subst (λ n. i < n) (length-map fs tree_in) (place_below (map tree_in fs) t i (sym (h ∙ ap (λ l. place_of l t) e)))

-- the packet is put at the place of its tree, or there is no memory
pub put_done : (r : Result (Unit {0}) NoMemory) (p : Packet) (ps : List ℕ) (fs : List FrameRun) (i : ℕ) (f g : FrameRun) → ps ≡ map tree_in fs → NoneTwice ps → Some i ≡ place_of ps p.tree → f ≡ get_or fs i f
    → OnOk r (g ≡ record f { waiting = f.waiting ++ p ∷ [] }) → OnOk r (slice_set fs i g ≡ map (put_in p) fs)
put_done (Ok u) p ps fs i f g e n h here new = put_at_place p ps fs (slice_set fs i g) i f g e n (sym h) (slice_get-get_or fs i f (seat_within ps fs p.tree i e h) ∙ ap Some (sym here)) new refl
put_done (Err x) p ps fs i f g e n h here new = tt

-- ---- frames and readers that go on

pub resumed_are : (ss : List ReadFrame) (js : List Journaled) (ns : List ℕ) (ps : List Packet) → map (λ (j : Journaled). j.tree) js ≡ map read_tree ss
    → map (put_all ps) (seats_by ss js ns) ≡ resumed_frames ss js ns ps
resumed_are [] js ns ps e = refl
resumed_are (f ∷ ss) [] ns ps e = refl
resumed_are (f ∷ ss) (j ∷ js) [] ps e = refl
resumed_are (f ∷ ss) (j ∷ js) (n ∷ ns) ps e =
    let same : j.tree ≡ f.tree = heads j.tree f.tree _ _ e in
    ap₂ (λ (x : FrameRun) (l : List FrameRun). x ∷ l) (ap (λ t. record { tree = t; left = drop n f.ops; journal = j.journal; waiting = of_tree t ps }) same) (resumed_are ss js ns ps (tails j.tree f.tree _ _ e))
  where
    heads : (a b : ℕ) (xs ys : List ℕ) → a ∷ xs ≡ b ∷ ys → a ≡ b
    heads a b xs ys k = cc

    tails : (a b : ℕ) (xs ys : List ℕ) → a ∷ xs ≡ b ∷ ys → xs ≡ ys
    tails a b xs ys k = cc

pub readers_are : (qs : List (List TimedQuery)) (ns : List ℕ) → readers_by qs ns ≡ resumed_readers qs ns
readers_are [] ns = refl
readers_are (q ∷ qs) [] = refl
readers_are (q ∷ qs) (n ∷ ns) = ap (λ l. drop n q ∷ l) (readers_are qs ns)

resumed_trees : (ss : List ReadFrame) (js : List Journaled) (ns : List ℕ) (ps : List Packet) → length js ≡ length ss → length ns ≡ length ss → map tree_in (resumed_frames ss js ns ps) ≡ map read_tree ss
resumed_trees [] js ns ps a b = refl
resumed_trees (f ∷ ss) [] ns ps a b = absurd (omega (arith, a))
resumed_trees (f ∷ ss) (j ∷ js) [] ps a b = absurd (omega (arith, b))
resumed_trees (f ∷ ss) (j ∷ js) (n ∷ ns) ps a b = ap (λ l. f.tree ∷ l) (resumed_trees ss js ns ps (omega (arith, a)) (omega (arith, b)))

within_length : {X : Type 0} (xss : List (List X)) (ns : List ℕ) → AreWithin xss ns → length ns ≡ length xss
within_length [] [] w = refl
within_length [] (n ∷ ns) w = absurd w
within_length (xs ∷ xss) [] w = absurd w
within_length (xs ∷ xss) (n ∷ ns) w = ap suc (within_length xss ns w.1)

resumed_whole : (ss : List ReadFrame) (js : List Journaled) (ns : List ℕ) (ps : List Packet) → map (λ (j : Journaled). j.tree) js ≡ map read_tree ss → All (λ (j : Journaled). is_short j.tree j.journal ≡ false) js
    → All (λ (f : FrameRun). is_short f.tree f.journal ≡ false) (resumed_frames ss js ns ps)
resumed_whole [] js ns ps e a = All-nil (λ (f : FrameRun). is_short f.tree f.journal ≡ false)
resumed_whole (f ∷ ss) [] ns ps e a = All-nil (λ (x : FrameRun). is_short x.tree x.journal ≡ false)
resumed_whole (f ∷ ss) (j ∷ js) [] ps e a = All-nil (λ (x : FrameRun). is_short x.tree x.journal ≡ false)
resumed_whole (f ∷ ss) (j ∷ js) (n ∷ ns) ps e a =
    let same : j.tree ≡ f.tree = heads j.tree f.tree _ _ e in
    All-cons (λ (x : FrameRun). is_short x.tree x.journal ≡ false) (record { tree = f.tree; left = drop n f.ops; journal = j.journal; waiting = of_tree f.tree ps }) (resumed_frames ss js ns ps)
    (ap (λ t. is_short t j.journal) (sym same) ∙ All-head (λ (x : Journaled). is_short x.tree x.journal ≡ false) j js a)
    (resumed_whole ss js ns ps (tails j.tree f.tree _ _ e) (All-tail (λ (x : Journaled). is_short x.tree x.journal ≡ false) j js a))
  where
    heads : (a b : ℕ) (xs ys : List ℕ) → a ∷ xs ≡ b ∷ ys → a ≡ b
    heads a b xs ys k = cc

    tails : (a b : ℕ) (xs ys : List ℕ) → a ∷ xs ≡ b ∷ ys → xs ≡ ys
    tails a b xs ys k = cc

-- the frames that a resumed run is made of, by the calls that made them
pub record Reseated (s : Read) (js : List Journaled) (parts : ForestParts) (done : Counts) (made fs : List FrameRun) : Type 0 where
  pub made_of : made ≡ seats_by s.frames js done.frames.items
  pub put : fs ≡ map (put_all parts.waiting.items) made

pub reseated : (s : Read) (js : List Journaled) (parts : ForestParts) (done : Counts) (made fs : List FrameRun) → CanResume s js parts done → Reseated s js parts done made fs → fs ≡ (resumed s js parts done).frames
reseated s js parts done made fs c r = r.put ∙ (ap (map (put_all parts.waiting.items)) r.made_of ∙ resumed_are s.frames js done.frames.items parts.waiting.items c.frames)

trees_again : (s : Read) (js : List Journaled) (parts : ForestParts) (done : Counts) → CanResume s js parts done → trees_in s ≡ trees_of (resumed s js parts done)
trees_again s js parts done c =
    let journals : length js ≡ length s.frames = sym (length-map js (λ (j : Journaled). j.tree)) ∙ (ap length c.frames ∙ length-map s.frames read_tree) in
    let counts : length done.frames.items ≡ length s.frames = within_length (map (λ (f : ReadFrame). f.ops) s.frames) done.frames.items c.frame_counts ∙ length-map s.frames (λ (f : ReadFrame). f.ops) in
    sym (resumed_trees s.frames js done.frames.items parts.waiting.items journals counts)

pub made_trees : (s : Read) (js : List Journaled) (parts : ForestParts) (done : Counts) (made : List FrameRun) → CanResume s js parts done
    → made ≡ seats_by s.frames js done.frames.items → trees_in s ≡ map tree_in made
made_trees s js parts done made c e =
    trees_again s js parts done c
    ∙ (ap (map tree_in) (sym (reseated s js parts done made (map (put_all parts.waiting.items) made) c (record { made_of = e; put = refl }))) ∙ put_trees parts.waiting.items made)

pub resumed_state : (s : Read) (js : List Journaled) (parts : ForestParts) (done : Counts) (made fs : List FrameRun) (bs : List TimedOp) (rs : List (List TimedQuery)) (h : List HEntry) → CanResume s js parts done
    → Reseated s js parts done made fs → bs ≡ drop done.browser s.browser → rs ≡ readers_by s.readers done.readers.items → h ≡ parts.forest.history → state_of fs bs rs h ≡ resumed s js parts done
resumed_state s js parts done made fs bs rs h c r b q k = state_is _ _ _ _ _ _ _ _ (reseated s js parts done made fs c r) b (q ∙ readers_are s.readers done.readers.items) k

pub resumed_kept : (s : Read) (js : List Journaled) (parts : ForestParts) (done : Counts) (made fs : List FrameRun) (bs : List TimedOp) (rs : List (List TimedQuery)) (h : List HEntry) (ps ts : List ℕ) → CanResume s js parts done
    → Reseated s js parts done made fs → bs ≡ drop done.browser s.browser → rs ≡ readers_by s.readers done.readers.items → h ≡ parts.forest.history → ps ≡ trees_in s → ts ≡ parts.forest.trees
    → IsKept (state_of fs bs rs h) ps ts
resumed_kept s js parts done made fs bs rs h ps ts c r b q k p t =
    let all = trees_again s js parts done c in
    kept_is _ (resumed s js parts done) ps (trees_in s) ts (trees_in s) (resumed_state s js parts done made fs bs rs h c r b q k) p (t ∙ c.forest) (record { places = all; trees = all; stands = c.stands })

pub whole_again : (s : Read) (js : List Journaled) (parts : ForestParts) (done : Counts) (made fs : List FrameRun) (bs : List TimedOp) (rs : List (List TimedQuery)) (h : List HEntry) → CanResume s js parts done
    → Reseated s js parts done made fs → IsWhole (state_of fs bs rs h)
whole_again s js parts done made fs bs rs h c r =
    subst (λ l. All (λ (f : FrameRun). is_short f.tree f.journal ≡ false) l) (sym (reseated s js parts done made fs c r)) (resumed_whole s.frames js done.frames.items parts.waiting.items c.frames c.whole)
