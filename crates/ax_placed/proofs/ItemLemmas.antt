-- One item more, in the loop over an order's items.
use Rattle.std.proofs.Common.{ℕ, zero, suc, ◌+◌, ◌≡◌, ◌<◌, ◌==◌, true, false, List, [], ◌∷◌, ◌++◌, length, map, set, take, replicate, find, flat_map, get_or, slice_get, refl, sym, ap, ◌∙◌, subst, Option, Some, None, option_map, option_and_then, Result, Ok, Err, IfOk, arith, append_assoc, append-nil}
use Rattle.std.specs.List.{enumerate_from}
use Rattle.std.proofs.lemmas.Bool.{eqb-true}
use Rattle.std.proofs.lemmas.List.Concat.{flat_map-append}
use Rattle.std.proofs.lemmas.Option.{slice_get-map}
use Rattle.ax_base.specs.declared.pass.Token.{Token}
use Rattle.ax_trees.proofs.Trees.{by_go}
use Rattle.ax_ask.specs.declared.op.Item.{Item}
use Rattle.ax_ask.specs.declared.op.Item.TheVariants.{Frame, Deliver, Reader}
use Rattle.ax_ask.specs.declared.line.Line.{Line}
use Rattle.ax_run_rules.specs.Fair.{is_reader}
use Rattle.ax_run_rules.specs.LineText.{line_text, lines_text}
use Rattle.ax_run_laws.proofs.Found.{same_number}
use Rattle.ax_order_laws.specs.Parts.{list_or}
use Rattle.ax_order_laws.specs.Told as told
use Rattle.ax_order_laws.specs.Told.{is_frame, is_entry, lines_or, reader_lines, line_at, placed}
use Rattle.ax_order_laws.proofs.Lists.{take_next, count, count_hit, count_miss}
use Rattle.ax_order_laws.proofs.Frames.{numbered_at, numbered_same, numbered_set}
use Rattle.ax_placed.specs.declared.told.FrameTold.{FrameTold}
use Rattle.ax_placed.specs.declared.told.Told.{Told}
use Rattle.ax_placed.specs.Placing.{frame_told, told_of, ArePlaces, FrameGoesOn, ReaderGoesOn, AreAt}
use Rattle.ax_report.specs.Buffers.{Extends}
use Rattle.ax_placed.proofs.PlaceLemmas.{there_of}
use Rattle.ax_placed.proofs.NextLemmas.{Puts}

-- ---- lists

map_there : {X Y : Type 0} (F G : X → Y) (xs : List X) → ((j : ℕ) (x : X) → slice_get xs j ≡ Some x → F x ≡ G x) → map F xs ≡ map G xs
map_there F G [] h = refl
map_there F G (x ∷ xs) h = ap (λ y. y ∷ map F xs) (h 0 x refl) ∙ ap (λ l. G x ∷ l) (map_there F G xs (λ j y q. h (suc j) y q))

set_map : {X : Type 0} (F G : X → ℕ) (xs : List X) (at : ℕ) (x : X) (n : ℕ) → slice_get xs at ≡ Some x → G x ≡ n → ((j : ℕ) (y : X) → slice_get xs j ≡ Some y → (j ≡ at → ⊥) → F y ≡ G y)
    → set (map F xs) at n ≡ map G xs
set_map F G [] at x n h e o = absurd (cc)
set_map F G (y ∷ xs) zero x n h e o =
    let s : y ≡ x = cc in
    ap (λ z. z ∷ map F xs) (sym (ap G s ∙ e)) ∙ ap (λ l. G y ∷ l) (map_there F G xs (λ j z k. o (suc j) z k (λ bad. absurd (omega (arith, bad)))))
set_map F G (y ∷ xs) (suc at) x n h e o =
    ap (λ z. z ∷ set (map F xs) at n) (o 0 y refl (λ bad. absurd (omega (arith, bad)))) ∙ ap (λ l. G y ∷ l) (set_map F G xs at x n h e (λ j z k a. o (suc j) z k (λ bad. a (let i : j ≡ at = omega (arith, bad) in i))))

list_some : {X : Type 0} (xss : List (List X)) (k j : ℕ) (x : X) (o : Option (List X)) → slice_get xss k ≡ o → slice_get (list_or o) j ≡ Some x → (xs : List X) × (slice_get xss k ≡ Some xs) × (slice_get xs j ≡ Some x)
list_some xss k j x None e h = absurd (cc)
list_some xss k j x (Some xs) e h = (xs, e, h)

-- ---- the frame of a tree

record FrameThere (fs : List FrameTold) (tree n : ℕ) (x : Line) : Type 0 where
  place : ℕ
  frame : FrameTold
  framed : slice_get fs place ≡ Some frame
  tree_is : frame.tree ≡ tree
  there : slice_get frame.lines n ≡ Some x

frame_there : (fs : List FrameTold) (tree n : ℕ) (x : Line) → slice_get (lines_or (find (λ (f : told.FrameTold). f.tree == tree) (map frame_told fs))) n ≡ Some x → FrameThere fs tree n x
frame_there [] tree n x h = absurd (cc)
frame_there (f ∷ fs) tree n x h =
    by_go (f.tree == tree)
    (λ q. record { place = 0; frame = f; framed = refl; tree_is = eqb-true f.tree tree q; there = rw q at h })
    (λ q. let r = frame_there fs tree n x (rw q at h) in record { place = suc r.place; frame = r.frame; framed = r.framed; tree_is = r.tree_is; there = r.there })

module _ (t : Told) (places : List ℕ) (placed' : ArePlaces t.frames places) (before : List Item) (frame_at : List ℕ) (entry_at : ℕ) (reader_at : List ℕ) (at : AreAt t before frame_at entry_at reader_at) where
  frames_beside : (i : Item) → ((u : ℕ) → is_frame u i ≡ false) → map (λ (f : FrameTold). count (is_frame f.tree) before) t.frames ≡ map (λ (f : FrameTold). count (is_frame f.tree) (before ++ i ∷ [])) t.frames
  frames_beside i n = map_there (λ (f : FrameTold). count (is_frame f.tree) before) (λ (f : FrameTold). count (is_frame f.tree) (before ++ i ∷ [])) t.frames (λ j f e. sym (count_miss (is_frame f.tree) before i (n f.tree)))

  readers_beside : (i : Item) → ((k : ℕ) → is_reader k i ≡ false)
      → map (λ (r : ℕ × List Line). count (is_reader r.0) before) (enumerate_from 1 t.readers) ≡ map (λ (r : ℕ × List Line). count (is_reader r.0) (before ++ i ∷ [])) (enumerate_from 1 t.readers)
  readers_beside i n = sym (numbered_same (λ (r : ℕ × List Line). count (is_reader r.0) before) (λ (r : ℕ × List Line). count (is_reader r.0) (before ++ i ∷ [])) (λ k x. count_miss (is_reader k) before i (n k)) 1 t.readers)

  -- ---- an operation of a frame

  frame_goes : (tree : ℕ) (x : Line) → FrameThere t.frames tree (count (is_frame tree) before) x → FrameGoesOn t.frames places frame_at tree
  frame_goes tree x f = record {
    place = f.place;
    frame = f.frame;
    at = count (is_frame tree) before;
    line = x;
    placed = ap (slice_get places) (sym f.tree_is) ∙ placed'.place f.place f.frame f.framed;
    framed = f.framed;
    begun = ap (λ l. slice_get l f.place) at.frames ∙ (slice_get-map (λ (g : FrameTold). count (is_frame g.tree) before) t.frames f.place
        ∙ (ap (option_map (λ (g : FrameTold). count (is_frame g.tree) before)) f.framed ∙ ap (λ u. Some (count (is_frame u) before)) f.tree_is));
    there = f.there;
  }

  frame_after : (tree : ℕ) (x : Line) (f : FrameThere t.frames tree (count (is_frame tree) before) x) (new : List ℕ) → new ≡ set frame_at f.place (count (is_frame tree) before + 1)
      → AreAt t (before ++ Frame tree ∷ []) new entry_at reader_at
  frame_after tree x f new e = record {
    frames = e ∙ (ap (λ l. set l f.place (count (is_frame tree) before + 1)) at.frames
        ∙ set_map (λ (g : FrameTold). count (is_frame g.tree) before) (λ (g : FrameTold). count (is_frame g.tree) (before ++ Frame tree ∷ [])) t.frames f.place f.frame (count (is_frame tree) before + 1) f.framed
        (ap (λ u. count (is_frame u) (before ++ Frame tree ∷ [])) f.tree_is ∙ (count_hit (is_frame tree) before (Frame tree) (same_number tree) ∙ (let z : suc (count (is_frame tree) before) ≡ count (is_frame tree) before + 1 = omega arith in z)))
        (λ j g k apart. sym (count_miss (is_frame g.tree) before (Frame tree)
        (by_go (tree == g.tree) (λ q. absurd (apart (same_at j f.place (sym (placed'.place j g k) ∙ (ap (slice_get places) (sym (eqb-true tree g.tree q) ∙ sym f.tree_is) ∙ placed'.place f.place f.frame f.framed))))) (λ q. q)))));
    entry = at.entry ∙ sym (count_miss is_entry before (Frame tree) refl);
    readers = at.readers ∙ readers_beside (Frame tree) (λ k. refl);
  }
    where
      same_at : (i j : ℕ) → Some i ≡ Some j → i ≡ j
      same_at i j h = cc

  pub frame_item : (tree : ℕ) (x : Line) (new : List ℕ) (old out : List ℕ) → line_at (told_of t) before (Frame tree) ≡ Some x
      → ((n : FrameGoesOn t.frames places frame_at tree) → (new ≡ set frame_at n.place (n.at + 1)) × (out ≡ old ++ line_text n.line))
      → AreAt t (before ++ Frame tree ∷ []) new entry_at reader_at × (out ≡ old ++ line_text x)
  unfolding frame_goes
  frame_item tree x new old out h puts =
      let f = frame_there t.frames tree (count (is_frame tree) before) x h in
      let r = puts (frame_goes tree x f) in
      (frame_after tree x f new r.0, r.1)

  -- ---- a receipt, or an operation of the browser

  pub entry_item : (i : Item) (x : Line) (next : ℕ) (lines : List Line) (old out : List ℕ) → is_entry i ≡ true → ((u : ℕ) → is_frame u i ≡ false) → ((k : ℕ) → is_reader k i ≡ false) → lines ≡ t.entries
      → slice_get t.entries (count is_entry before) ≡ Some x → Puts lines entry_at next old out → AreAt t (before ++ i ∷ []) frame_at next reader_at × (out ≡ old ++ line_text x)
  entry_item i x next lines old out m n k e h puts =
      let r = puts x (ap (λ l. slice_get l entry_at) e ∙ (ap (slice_get t.entries) at.entry ∙ h)) in (
        record {
          frames = at.frames ∙ frames_beside i n;
          entry = r.0 ∙ (ap (λ j. j + 1) at.entry ∙ ((let z : count is_entry before + 1 ≡ suc (count is_entry before) = omega arith in z) ∙ sym (count_hit is_entry before i m)));
          readers = at.readers ∙ readers_beside i k;
        },
        r.1,
      )

  -- ---- a delivery

  pub delivery_item : (tree : ℕ) (n : Token) → AreAt t (before ++ Deliver tree n ∷ []) frame_at entry_at reader_at
  delivery_item tree n = record {
    frames = at.frames ∙ frames_beside (Deliver tree n) (λ u. refl);
    entry = at.entry ∙ sym (count_miss is_entry before (Deliver tree n) refl);
    readers = at.readers ∙ readers_beside (Deliver tree n) (λ k. refl);
  }

  -- ---- a query

  reader_goes : (k : ℕ) (x : Line) (ls : List Line) → slice_get t.readers k ≡ Some ls → slice_get ls (count (is_reader (suc k)) before) ≡ Some x → ReaderGoesOn t.readers reader_at (suc k)
  reader_goes k x ls l h = record {
    place = k;
    lines = ls;
    at = count (is_reader (suc k)) before;
    line = x;
    numbered = refl;
    listed = l;
    begun = ap (λ j. slice_get j k) at.readers ∙ (numbered_at (λ (r : ℕ × List Line). count (is_reader r.0) before) 1 k (suc k) t.readers (omega arith)
        ∙ ap (option_map (λ (y : List Line). count (is_reader (suc k)) before)) l);
    there = h;
  }

  pub reader_item : (number : ℕ) (x : Line) (new : List ℕ) (old out : List ℕ) → line_at (told_of t) before (Reader number) ≡ Some x
      → ((n : ReaderGoesOn t.readers reader_at number) → (new ≡ set reader_at n.place (n.at + 1)) × (out ≡ old ++ line_text n.line))
      → AreAt t (before ++ Reader number ∷ []) frame_at entry_at new × (out ≡ old ++ line_text x)
  unfolding reader_goes
  reader_item zero x new old out h puts = absurd (cc)
  reader_item (suc k) x new old out h puts =
      let l = list_some t.readers k (count (is_reader (suc k)) before) x (slice_get t.readers k) refl h in
      let r = puts (reader_goes k x l.0 l.1 l.2) in (
        record {
          frames = at.frames ∙ frames_beside (Reader (suc k)) (λ u. refl);
          entry = at.entry ∙ sym (count_miss is_entry before (Reader (suc k)) refl);
          readers = r.0 ∙ (ap (λ j. set j k (count (is_reader (suc k)) before + 1)) at.readers
              ∙ numbered_set (λ (q : ℕ × List Line). count (is_reader q.0) before) (λ (q : ℕ × List Line). count (is_reader q.0) (before ++ Reader (suc k) ∷ [])) (suc k) (count (is_reader (suc k)) before + 1)
              (λ i y e. count_miss (is_reader i) before (Reader (suc k)) e) 1 k t.readers l.0 (omega arith) l.1
              (count_hit (is_reader (suc k)) before (Reader (suc k)) (same_number (suc k)) ∙ (let z : suc (count (is_reader (suc k)) before) ≡ count (is_reader (suc k)) before + 1 = omega arith in z)));
        },
        r.1,
      )

pub if_ok : {T E : Type 0} (r : Result T E) (P Q : T → Type 0) → IfOk r P → ((x : T) → P x → Q x) → IfOk r Q
if_ok (Ok x) P Q h k = k x h
if_ok (Err e) P Q h k = tt

-- ---- one more line

then_some : {X Y : Type 0} (f : X → Option Y) (o : Option X) (y : Y) → option_and_then f o ≡ Some y → (x : X) × (o ≡ Some x) × (f x ≡ Some y)
then_some f None y h = absurd (cc)
then_some f (Some x) y h = (x, refl, h)

map_some : {X Y : Type 0} (f : X → Y) (o : Option X) (y : Y) → option_map f o ≡ Some y → (x : X) × (o ≡ Some x) × (f x ≡ y)
map_some f None y h = absurd (cc)
map_some f (Some x) y h = (x, refl, cc)

pub record OneMore (l : told.LinesTold) (b xs : List Item) (i : Item) (all : List Line) : Type 0 where
  pub front : List Line
  pub line : Line
  pub placed_front : placed l b xs ≡ Some front
  pub next : line_at l (b ++ xs) i ≡ Some line
  pub whole : all ≡ front ++ line ∷ []

pub one_more : (l : told.LinesTold) (b xs : List Item) (i : Item) (all : List Line) → placed l b (xs ++ i ∷ []) ≡ Some all → OneMore l b xs i all
one_more l b [] i all h =
    let x = then_some (λ (y : Line). option_map (λ (ys : List Line). y ∷ ys) (placed l (b ++ i ∷ []) [])) (line_at l b i) all h in
    record { front = []; line = x.0; placed_front = refl; next = ap (λ c. line_at l c i) (append-nil b) ∙ x.1; whole = cc }
one_more l b (j ∷ xs) i all h =
    let x = then_some (λ (y : Line). option_map (λ (ys : List Line). y ∷ ys) (placed l (b ++ j ∷ []) (xs ++ i ∷ []))) (line_at l b j) all h in
    let y = map_some (λ (ys : List Line). x.0 ∷ ys) (placed l (b ++ j ∷ []) (xs ++ i ∷ [])) all x.2 in
    let r = one_more l (b ++ j ∷ []) xs i y.0 y.1 in
    record {
      front = x.0 ∷ r.front;
      line = r.line;
      placed_front = ap (option_and_then (λ (z : Line). option_map (λ (zs : List Line). z ∷ zs) (placed l (b ++ j ∷ []) xs))) x.1 ∙ ap (option_map (λ (zs : List Line). x.0 ∷ zs)) r.placed_front;
      next = ap (λ c. line_at l c i) (sym (append_assoc b (j ∷ []) xs)) ∙ r.next;
      whole = sym y.2 ∙ ap (λ zs. x.0 ∷ zs) r.whole;
    }

pub text_more : (ls : List Line) (x : Line) → lines_text (ls ++ x ∷ []) ≡ lines_text ls ++ line_text x
unfolding lines_text
text_more ls x = flat_map-append line_text ls (x ∷ []) ∙ ap (λ l. flat_map line_text ls ++ l) (append-nil (line_text x))

pub item_more : (t : Told) (order : List Item) (i : ℕ) (item : Item) (fa ra fb rb : List ℕ) (entry next : ℕ) (start now out : List ℕ) → i < length order → item ≡ get_or order i item
    → ((ls : List Line) → placed (told_of t) [] (take i order) ≡ Some ls → AreAt t (take i order) fa entry ra × (now ≡ start ++ lines_text ls))
    → ((before : List Item) (x : Line) → AreAt t before fa entry ra → line_at (told_of t) before item ≡ Some x → AreAt t (before ++ item ∷ []) fb next rb × (out ≡ now ++ line_text x))
    → (ls : List Line) → placed (told_of t) [] (take (i + 1) order) ≡ Some ls → AreAt t (take (i + 1) order) fb next rb × (out ≡ start ++ lines_text ls)
item_more t order i item fa ra fb rb entry next start now out l is old put ls h =
    let longer : take (i + 1) order ≡ take i order ++ item ∷ [] = ap (λ k. take k order) (let z : i + 1 ≡ suc i = omega arith in z) ∙ take_next order i item (there_of order i item l is) in
    let m = one_more (told_of t) [] (take i order) item ls (ap (placed (told_of t) []) (sym longer) ∙ h) in
    let before = old m.front m.placed_front in
    let r = put (take i order) m.line before.0 m.next in
    let text : start ++ lines_text (m.front ++ m.line ∷ []) ≡ (start ++ lines_text m.front) ++ line_text m.line =
    ap (λ x. start ++ x) (text_more m.front m.line) ∙ sym (append_assoc start (lines_text m.front) (line_text m.line)) in (
      subst (λ o. AreAt t o fb next rb) (sym longer) r.0,
      r.1 ∙ (ap (λ x. x ++ line_text m.line) before.1 ∙ (sym text ∙ ap (λ y. start ++ lines_text y) (sym m.whole))),
    )

pub begins_then : (xs ys zs : List ℕ) → Extends xs ys → Extends ys zs → Extends xs zs
begins_then xs ys zs a b = record { more = a.more ++ b.more; whole = b.whole ∙ (ap (λ l. l ++ b.more) a.whole ∙ append_assoc xs a.more b.more) }

zeros_frames : (fs : List FrameTold) → replicate {A = ℕ} (length fs) 0 ≡ map (λ (f : FrameTold). 0) fs
zeros_frames [] = refl
zeros_frames (f ∷ fs) = ap (λ l. 0 ∷ l) (zeros_frames fs)

zeros_readers : (d : ℕ) (rs : List (List Line)) → replicate {A = ℕ} (length rs) 0 ≡ map (λ (r : ℕ × List Line). 0) (enumerate_from d rs)
zeros_readers d [] = refl
zeros_readers d (r ∷ rs) = ap (λ l. 0 ∷ l) (zeros_readers (d + 1) rs)

-- before the first item
pub first_at : (t : Told) (n m : ℕ) (fa ra out : List ℕ) → fa ≡ replicate {A = ℕ} n 0 → ra ≡ replicate {A = ℕ} m 0 → n ≡ length t.frames → m ≡ length t.readers → (ls : List Line) → Some [] ≡ Some ls
    → AreAt t [] fa 0 ra × (out ≡ out ++ lines_text ls)
unfolding lines_text
first_at t n m fa ra out e f k j ls h =
    let none : [] ≡ ls = cc in (
      record {
        frames = e ∙ (ap (λ i. replicate {A = ℕ} i 0) k ∙ zeros_frames t.frames);
        entry = refl;
        readers = f ∙ (ap (λ i. replicate {A = ℕ} i 0) j ∙ zeros_readers 1 t.readers);
      },
      sym (append-nil out) ∙ ap (λ l. out ++ flat_map line_text l) none,
    )
