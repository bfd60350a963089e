-- The next line of each list of the calls' lines.
use Rattle.std.proofs.Common.{ℕ, zero, suc, ◌+◌, ◌≡◌, ◌==◌, List, [], ◌∷◌, ◌++◌, length, map, take, find, flat_map, slice_get, refl, sym, ap, ◌∙◌, Some, option_map, arith, append_assoc, append-nil, length-append}
use Rattle.std.proofs.lemmas.Bool.{eqb-true}
use Rattle.std.proofs.lemmas.List.{length-map}
use Rattle.ax_trees.proofs.Trees.{by_go}
use Rattle.ax_tree.specs.declared.packet.JEntry.{JEntry}
use Rattle.ax_tree.specs.declared.packet.HEntry.{HEntry}
use Rattle.ax_tree.specs.Journals.{frame_of}
use Rattle.ax_ask.specs.declared.op.FrameOp.{FrameOp}
use Rattle.ax_ask.specs.declared.query.TimedQuery.{TimedQuery}
use Rattle.ax_run_rules.specs.FrameSteps.{entry_of, op_line}
use Rattle.ax_run_rules.specs.Scripts.{Script}
use Rattle.ax_run_rules.specs.Taken.{ClosedFrame, Closed}
use Rattle.ax_order_laws.specs.Parts.{op_in, list_at, list_or, journal_in, journal_or}
use Rattle.ax_order_laws.specs.Told.{op_lines, entry_line, entry_lines, query_line, query_lines, FrameTold, told_by, lines_or, reader_lines}
use Rattle.ax_order_laws.proofs.Lists.{get_past}
use Rattle.ax_order_laws.proofs.Frames.{numbered_at}
use Rattle.ax_order_laws.proofs.Keeping.{op_of_entry}
use Rattle.ax_order_laws.proofs.Standing.{has_tree}

pub op_told : (t : ℕ) (before j : List JEntry) (n : ℕ) (op : FrameOp) → slice_get j n ≡ Some (entry_of op)
    → slice_get (op_lines t before j) (length (flat_map op_in (take n j))) ≡ Some (op_line t (frame_of t (before ++ take n j)) op)
op_told t before [] n op h = absurd (cc)
op_told t before (e ∷ j) zero op h =
    let same : e ≡ entry_of op = cc in
    ap (λ l. slice_get (map (op_line t (frame_of t before)) l ++ op_lines t (before ++ e ∷ []) j) 0) (ap op_in same ∙ op_of_entry op)
    ∙ ap (λ b. Some (op_line t (frame_of t b) op)) (sym (append-nil before))
op_told t before (e ∷ j) (suc n) op h =
    let own = map (op_line t (frame_of t before)) (op_in e) in
    let rest = length (flat_map op_in (take n j)) in
    let at : length (op_in e ++ flat_map op_in (take n j)) ≡ length (map (op_line t (frame_of t before)) (op_in e)) + length (flat_map op_in (take n j)) =
    let a = length-append (op_in e) (flat_map op_in (take n j)) in let b = length-map (op_in e) (op_line t (frame_of t before)) in omega (arith, a, b) in
    ap (λ i. slice_get (own ++ op_lines t (before ++ e ∷ []) j) i) at
    ∙ (get_past own (op_lines t (before ++ e ∷ []) j) rest
    ∙ (op_told t (before ++ e ∷ []) j n op h ∙ ap (λ b. Some (op_line t (frame_of t b) op)) (append_assoc before (e ∷ []) (take n j))))

pub entry_told : (before h : List HEntry) (n : ℕ) (e : HEntry) → slice_get h n ≡ Some e → slice_get (entry_lines before h) n ≡ Some (entry_line (before ++ take n h) e)
entry_told before [] n e q = absurd (cc)
entry_told before (x ∷ h) zero e q = let same : x ≡ e = cc in ap (λ y. Some (entry_line before y)) same ∙ ap (λ b. Some (entry_line b e)) (sym (append-nil before))
entry_told before (x ∷ h) (suc n) e q = entry_told (before ++ x ∷ []) h n e q ∙ ap (λ b. Some (entry_line b e)) (append_assoc before (x ∷ []) (take n h))

query_told : (c : Closed) (k : ℕ) (qs : List TimedQuery) (ns : List ℕ) (j : ℕ) (q : TimedQuery) (n : ℕ) → slice_get qs j ≡ Some q → slice_get ns j ≡ Some n
    → slice_get (query_lines c k qs ns) j ≡ Some (query_line c k q n)
query_told c k [] ns j q n a b = absurd (cc)
query_told c k (x ∷ qs) [] j q n a b = absurd (cc)
query_told c k (x ∷ qs) (y ∷ ns) zero q n a b = let s : x ≡ q = cc in let t : y ≡ n = cc in ap (λ z. Some (query_line c k z y)) s ∙ ap (λ z. Some (query_line c k q z)) t
query_told c k (x ∷ qs) (y ∷ ns) (suc j) q n a b = query_told c k qs ns j q n a b

abbrev frame_told : ClosedFrame → FrameTold
frame_told f = record { tree = f.tree; lines = op_lines f.tree [] f.journal }

frame_lines : (t : ℕ) (fs : List ClosedFrame) → lines_or (find (λ (f : FrameTold). f.tree == t) (map frame_told fs)) ≡ op_lines t [] (journal_or (find (has_tree t) fs))
frame_lines t [] = refl
frame_lines t (f ∷ fs) = by_go (f.tree == t) (λ q. rw q (ap (λ u. op_lines u [] f.journal) (eqb-true f.tree t q))) (λ q. rw q (frame_lines t fs))

module _ (s : Script) (c : Closed) (looks : List (List ℕ)) where
  -- the line of the operation that the journal of t has next
  pub told_op : (t n : ℕ) (op : FrameOp) → slice_get (journal_in c t) n ≡ Some (entry_of op)
      → slice_get (lines_or (find (λ (f : FrameTold). f.tree == t) (told_by s c looks).frames)) (length (flat_map op_in (take n (journal_in c t)))) ≡ Some (op_line t (frame_of t (take n (journal_in c t))) op)
  unfolding told_by
  told_op t n op h = ap (λ l. slice_get l (length (flat_map op_in (take n (journal_in c t))))) (frame_lines t c.frames) ∙ op_told t [] (journal_in c t) n op h

  pub told_entry : (n : ℕ) (e : HEntry) → slice_get c.history n ≡ Some e → slice_get (told_by s c looks).entries n ≡ Some (entry_line (take n c.history) e)
  unfolding told_by
  told_entry n e h = entry_told [] c.history n e h

  pub told_query : (k j n : ℕ) (qs : List TimedQuery) (q : TimedQuery) → slice_get s.readers k ≡ Some qs → slice_get qs j ≡ Some q → slice_get (list_at looks k) j ≡ Some n
      → slice_get (reader_lines (told_by s c looks) (suc k)) j ≡ Some (query_line c k q n)
  unfolding told_by
  told_query k j n qs q h a b =
      let at = numbered_at (λ (r : ℕ × List TimedQuery). query_lines c r.0 r.1 (list_at looks r.0)) 0 k k s.readers (omega arith) in
      ap (λ o. slice_get (list_or o) j) (at ∙ ap (option_map (λ x. query_lines c k x (list_at looks k))) h) ∙ query_told c k qs (list_at looks k) j q n a b
