-- What a pass makes and leaves, by what its bundle is.
use Rattle.std.proofs.Common.{ℕ, suc, ◌≡◌, inl, ⊎_elim, Bool, true, false, ◌||◌, List, [], ◌∷◌, map, Ok, refl, sym, ap, ap₂, subst, ◌∙◌}
use Rattle.std.specs.Prelude.{if◌then◌else◌}
use Rattle.std.proofs.lemmas.Bool.{false≢true}
use Rattle.ax_node.specs.Look.{Look}
use Rattle.ax_trees.specs.Trees.{Trees, bare, tree, is_bare}
use Rattle.ax_trees.specs.Shape.{shape}
use Rattle.ax_tree.specs.declared.edit.Edit.{Edit}
use Rattle.ax_tree.specs.declared.packet.Packet.{Packet}
use Rattle.ax_tree.specs.declared.packet.JEntry.TheVariants.{Passed, Short}
use Rattle.ax_tree.specs.declared.update.TreeUpdate.{TreeUpdate}
use Rattle.ax_tree.specs.UpdateRule.{Update}
use Rattle.ax_tree.specs.Bundles.{Client, trees_updates}
use Rattle.ax_tree.specs.InStep.{TreesInStep}
use Rattle.ax_tree.specs.Tree.{Tree}
use Rattle.ax_tree.specs.Updates.{applied_all, nodes_part}
use Rattle.ax_tree.specs.Serialised.{InStep, bundle_of, resumed_bundle, with_tree_data}
use Rattle.ax_tree.specs.Journals.{Frame, after_entry, after_packet, pending}
use Rattle.ax_tree.specs.Packets.{Head}
use Rattle.ax_laws.proofs.FrameSteps.{Kept, self_in_step}
use Rattle.ax_laws.proofs.Sent.{is_bare-shape, resumed_bundle_reach}
use Rattle.ax_serializer.specs.Sending.{is_fresh}
use Rattle.ax_source.specs.Source.{Source}
use Rattle.ax_frame.specs.Frames.{HoldsFrame, IsSending, begins_fresh}
use Rattle.ax_frame.specs.Passes.{Completes, IsPass, StaysSending, is_fresh_pass}
use Rattle.ax_frame.proofs.Holding.{in_step, pending_rooted}
use Rattle.ax_frame.proofs.Rounds.{fresh_is, receiver_none, whole_updates}

-- the serializer's test of a bundle is that of its updates without tree data
pub fresh_kept : (us : List TreeUpdate) → is_fresh us ≡ begins_fresh (map nodes_part us)
fresh_kept [] = refl
fresh_kept (u ∷ us) = refl

-- a frame that goes on as if it were short
pub as_short : (f : Frame) (m : List ℕ) (c : Client) (kept : List TreeUpdate) → IsSending f m c kept → IsSending (record f { short = true }) m c kept
as_short f m c kept sd = record {
  receiver = sd.receiver;
  known = sd.known;
  reached = sd.reached;
  step = sd.step;
  none = sd.none;
  some = sd.some;
  whole = λ e. absurd (false≢true (sym e));
  fresh = sd.fresh;
}

same_head : (t n k p b : ℕ) (e l : List Edit) (tok tik : ℕ) → n ≡ k → p ≡ b → tok ≡ tik → e ≡ l
    → ◌≡◌ {A = Head} (record { tree = t; pass = n; base = p; token = tok; slip = e }) (record { tree = t; pass = k; base = b; token = tik; slip = l })
same_head t n k p b e l tok tik en ep et ee = λ z. record { tree = t; pass = en z; base = ep z; token = et z; slip = ee z }

same_packet : (t n k p b tok tik : ℕ) (e l : List Edit) (us vs : List TreeUpdate) → n ≡ k → p ≡ b → tok ≡ tik → e ≡ l → us ≡ vs
    → ◌≡◌ {A = Packet} (record { tree = t; pass = record { 0 = n }; base = record { 0 = p }; token = record { 0 = tok }; slip = e; bundle = us })
    (record { tree = t; pass = record { 0 = k }; base = record { 0 = b }; token = record { 0 = tik }; slip = l; bundle = vs })
same_packet t n k p b tok tik e l us vs en ep et ee eu = λ z. record { tree = t; pass = record { 0 = en z }; base = record { 0 = ep z }; token = record { 0 = et z }; slip = ee z; bundle = eu z }

module _ (t : ℕ) (f : Frame) (kf : Kept t f) (s : Source) (c : Client) (kept : List TreeUpdate) (slip : List Edit) (passes token : ℕ) (short : Bool) (k : HoldsFrame f s c kept slip passes token short) where
  -- the updates that were made before want of memory are kept
  pub short_holds : (now : Source) (after : Client) (all : List TreeUpdate) → pending f ≡ true → StaysSending s.tree s.marks c kept now.marks after all → now.tree ≡ s.tree → now.changed ≡ s.changed
      → HoldsFrame (after_entry t Short f) now after all slip passes token true
  short_holds now after all p stays et ec = record {
    source = et ∙ k.source;
    flag = ec ∙ k.flag;
    slips = k.slips;
    passed = k.passed;
    tokens = k.tokens;
    shorts = refl;
    sending = stays (record f { short = true }) (sym k.source) refl p (as_short f s.marks c kept k.sending);
  }

  -- where there is nothing to send, a pass changes nothing
  pub idle_holds : pending f ≡ false → HoldsFrame (after_entry t Passed f) s c kept slip passes token short
  idle_holds p = rw p k

  -- after a packet nothing is kept, and the receiver has the source
  pub passed_holds : (now : Source) (after : Client) (all : List TreeUpdate) (left : List Edit) (n : ℕ) → pending f ≡ true → Completes s.tree s.marks c kept after → now.tree ≡ s.tree → now.changed ≡ false → now.marks ≡ [] → all ≡ []
      → left ≡ [] → n ≡ suc passes → HoldsFrame (after_entry t Passed f) now after all left n token false
  passed_holds now after all left n p done et ec em ea el en =
      let client : after ≡ shape f.source.trees = done (record f { short = true }) (sym k.source) refl p (as_short f s.marks c kept k.sending) ∙ ap (λ (v : Tree). shape v.trees) k.source in
      let own : InStep f.source f.source [] false true = self_in_step f.source kf.step.trees.source kf.step.trees.source_low true in
      let marks : TreesInStep f.source.trees f.source.trees now.marks = subst (λ m. TreesInStep f.source.trees f.source.trees m) (sym em) own.trees in
      rw p record {
        source = et ∙ k.source;
        flag = ec;
        slips = el;
        passed = en ∙ ap suc k.passed;
        tokens = k.tokens;
        shorts = refl;
        sending = subst (λ us. IsSending (after_packet f) now.marks after us) (sym ea) (record {
          receiver = f.source.trees;
          known = client;
          reached = refl;
          step = marks;
          none = λ e. inl em;
          some = λ h. absurd (h refl);
          whole = λ e. refl;
          fresh = λ h. absurd (h refl);
        });
      }

  fresh_as : (fresh : Bool) → pending f ≡ true → fresh ≡ is_fresh_pass kept c s.tree.trees s.marks → fresh ≡ is_bare f.sent.trees
  fresh_as fresh p e = e ∙ ap (λ (v : Tree). is_fresh_pass kept c v.trees s.marks) k.source ∙ fresh_is f s.marks c kept (pending_rooted f p) k.sending

  bundle_as : (fresh : Bool) (us : List TreeUpdate) → pending f ≡ true → fresh ≡ is_fresh_pass kept c s.tree.trees s.marks → us ≡ resumed_bundle (map nodes_part kept) c s.tree s.marks s.changed fresh
      → us ≡ resumed_bundle (map nodes_part kept) c f.source s.marks f.flag (is_bare f.sent.trees)
  bundle_as fresh us p ef eu =
      eu ∙ ap (λ (v : Tree). resumed_bundle (map nodes_part kept) c v s.marks s.changed fresh) k.source
      ∙ ap₂ (λ (g b : Bool). resumed_bundle (map nodes_part kept) c f.source s.marks g b) k.flag (fresh_as fresh p ef)

  bundle_gives : (us : List TreeUpdate) → us ≡ resumed_bundle (map nodes_part kept) c f.source s.marks f.flag (is_bare f.sent.trees) → applied_all us f.sent ≡ Ok f.source
  bundle_gives us e =
      let sd : IsSending f s.marks c kept = k.sending in
      ap (λ vs. applied_all vs f.sent) (e ∙ ap (λ (h : Client). resumed_bundle (map nodes_part kept) h f.source s.marks f.flag (is_bare f.sent.trees)) sd.known)
      ∙ resumed_bundle_reach (map nodes_part kept) f.sent (record { about = f.sent.about; trees = sd.receiver }) f.source s.marks f.flag (is_bare f.sent.trees) kf.step.trees.receiver_low refl sd.reached
      (in_step t f s.marks sd.receiver kf sd.step)

  -- where nothing was kept, the updates are those of the frame's packet
  updates_as : f.short ≡ false → trees_updates c f.source.trees s.marks ≡ trees_updates (shape f.sent.trees) f.source.trees f.marks
  updates_as h =
      let sd : IsSending f s.marks c kept = k.sending in
      let client : c ≡ shape f.sent.trees = sd.known ∙ sym (ap shape (receiver_none f s.marks c kept sd (sd.whole h))) in
      ap (λ (v : Client). trees_updates v f.source.trees s.marks) client
      ∙ ⊎_elim (λ e. ap (trees_updates (shape f.sent.trees) f.source.trees) e)
      (λ b. let none : shape f.sent.trees ≡ bare = bare_shape f.sent.trees b in
      ap (λ (v : Client). trees_updates v f.source.trees s.marks) none ∙ whole_updates f.source.trees s.marks sd.step.marks_in
      ∙ sym (ap (λ (v : Client). trees_updates v f.source.trees f.marks) none ∙ whole_updates f.source.trees f.marks kf.step.trees.marks_in))
      (sd.none (sd.whole h))
    where
      bare_shape : (w : Trees Look) → is_bare w ≡ true → shape w ≡ bare
      bare_shape bare q = refl
      bare_shape (tree i x y r) q = absurd (false≢true q)

  bundle_whole : (us : List TreeUpdate) → f.short ≡ false → us ≡ resumed_bundle (map nodes_part kept) c f.source s.marks f.flag (is_bare f.sent.trees) → us ≡ bundle_of (shape f.sent.trees) f.source f.marks f.flag
  bundle_whole us h e =
      let sd : IsSending f s.marks c kept = k.sending in
      e ∙ ap (λ (ks : List TreeUpdate). resumed_bundle (map nodes_part ks) c f.source s.marks f.flag (is_bare f.sent.trees)) (sd.whole h)
      ∙ ap₂ (λ (b : Bool) (vs : List (Update Look)). with_tree_data (f.flag || b) f.source.about vs) (sym (is_bare-shape f.sent.trees)) (updates_as h)

  base_as : (b : ℕ) (fresh : Bool) → pending f ≡ true → fresh ≡ is_fresh_pass kept c s.tree.trees s.marks → b ≡ (if fresh then 0 else passes) → b ≡ (if is_bare f.sent.trees then 0 else f.passes)
  base_as b fresh p ef eb = eb ∙ ap₂ (λ (x : Bool) (n : ℕ). if x then 0 else n) (fresh_as fresh p ef) k.passed

  pub is_pass : (n b : ℕ) (fresh : Bool) (us : List TreeUpdate) → pending f ≡ true → n ≡ suc passes → b ≡ (if fresh then 0 else passes) → fresh ≡ is_fresh_pass kept c s.tree.trees s.marks
      → us ≡ resumed_bundle (map nodes_part kept) c s.tree s.marks s.changed fresh
      → IsPass t f (record { tree = t; pass = record { 0 = n }; base = record { 0 = b }; token = record { 0 = token }; slip = slip; bundle = us })
  is_pass n b fresh us p en eb ef eu =
      let whole = bundle_as fresh us p ef eu in
      let base = base_as b fresh p ef eb in
      record {
        head = same_head t n (suc f.passes) b (if is_bare f.sent.trees then 0 else f.passes) slip f.slip token f.token (en ∙ ap suc k.passed) base k.tokens k.slips;
        gives = bundle_gives us whole;
        completed = record { kept = kept; client = c; marks = s.marks; sending = k.sending; whole = whole };
        whole = λ h. same_packet t n (suc f.passes) b (if is_bare f.sent.trees then 0 else f.passes) token f.token slip f.slip us (bundle_of (shape f.sent.trees) f.source f.marks f.flag)
            (en ∙ ap suc k.passed) base k.tokens k.slips (bundle_whole us h whole);
      }
