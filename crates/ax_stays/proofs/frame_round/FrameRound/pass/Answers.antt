use Rattle.std.proofs.Common.{◌+◌, [], ◌∷◌, length, Ok, Err, ap, inl, refl, sym, subst, ◌∙◌}
use Rattle.ax_tree.specs.declared.packet.JEntry.TheVariants.{Passed}
use Rattle.ax_frame.specs.Frames.{Journaled}
use Rattle.ax_stays.specs.FrameCalls.{grown, FitsWith, IsMade}
use Rattle.ax_stays.proofs.Cuts.{broken_cuts, passed_cuts}
use Rattle.ax_stays.proofs.Journals.{broken_out, fits_err, fits_none, fits_out, made_of, none_grown}
use Rattle.ax_stays.proofs.frame_round.FrameRound.pass.Goals as goal

-- ---- no room for the place

pub returns-in_default-clause-broken : goal.returns-in_default-clause-broken
returns-in_default-clause-broken c = inl (none_grown c.args.self.now c.args.self.now refl)

pub returns-in_default-clause-fits : goal.returns-in_default-clause-fits
returns-in_default-clause-fits c = fits_none c.args.self.now c.args.self.now (record {}) refl

-- ---- a pass that answered

pub invariant_of-self-in-Ok : goal.invariant_of-self-in-Ok
invariant_of-self-in-Ok c =
    passed_cuts c.self.inside.frame c.pass.new.self c.self.inside.made c.push.new.self c.keep_place.new.made c.in-Some.place c.self.invariant c.in_ok-push.ensures.ok c.in-Ok.out
    (c.in-Some.ensures.1 ∙ ap (λ n. n + 1) (c.len.ensures ∙ ap length c.journal.ensures)) c.keep_place.ensures c.in-Ok.ensures.nothing c.in-Ok.ensures.passed

pub returns-in-Ok-clause-made : goal.returns-in-Ok-clause-made
returns-in-Ok-clause-made c =
    let f = c.self.inside.frame in
    subst (λ (j : Journaled). IsMade j.tree c.parcel_of.result j.journal) c.self.view_is
    (subst (λ m. IsMade f.tree m f.journal) (sym c.parcel_of.ensures) (made_of c.in-Ok.out f.tree f.journal c.in-Ok.ensures.nothing c.in-Ok.ensures.packet c.in-Ok.ensures.resumed c.in-Ok.ensures.notes))

pub returns-in-Ok-clause-passed : goal.returns-in-Ok-clause-passed
returns-in-Ok-clause-passed c = c.in-Ok.ensures.passed ∙ ap (grown (Passed ∷ [])) c.self.view_is

pub returns-in-Ok-clause-fits : goal.returns-in-Ok-clause-fits
returns-in-Ok-clause-fits c =
    let f = c.self.inside.frame in
    subst (λ (j : Journaled). FitsWith j (Ok c.parcel_of.result) c.pass.new.self) c.self.view_is
    (subst (λ m. FitsWith f (Ok m) c.pass.new.self) (sym c.parcel_of.ensures) (fits_out c.in-Ok.out f c.pass.new.self c.in-Ok.ensures.fits))

-- ---- a pass without memory

pub invariant_of-self-in-Err : goal.invariant_of-self-in-Err
invariant_of-self-in-Err c =
    broken_cuts c.self.inside.frame c.pass.new.self c.self.inside.made c.push.new.self c.drop_last.new.made c.in-Some.place c.self.invariant c.in_ok-push.ensures.ok c.drop_last.ensures c.in-Err.ensures.broken

pub returns-in-Err-clause-broken : goal.returns-in-Err-clause-broken
returns-in-Err-clause-broken c = broken_out c.self.inside.frame c.args.self.now c.pass.new.self c.self.view_is c.in-Err.ensures.broken

pub returns-in-Err-clause-fits : goal.returns-in-Err-clause-fits
returns-in-Err-clause-fits c =
    subst (λ (j : Journaled). FitsWith j (Err (record {})) c.pass.new.self) c.self.view_is (fits_err c.self.inside.frame c.pass.new.self (record {}) c.in-Err.ensures.fits)
