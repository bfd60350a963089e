use Rattle.std.proofs.lemmas.Result.{err_from_is_err_and}
use Rattle.ax_core.specs.Standing.{state_of}
use Rattle.ax_core.proofs.Hearing.{tells, breaks}
use Rattle.ax_core.proofs.Telling.{read_at, pass_kept, broke_at, passed_at}
use Rattle.ax_core.proofs.run.Core.pass.Goals as goal

pub invariant_of-self : goal.invariant_of-self
invariant_of-self g c =
    let s = state_of c.self.inside.seats.items c.self.inside.browser c.self.inside.readers.items c.self.inside.forest.history in
    let f = c.index_mut.result.now in
    let h = read_at s c.args.self.now c.args.at f c.self.view_is c.requires c.index_mut.ensures.value in
    pass_kept c.pass.result s c.self.inside.places c.self.inside.forest.trees c.args.at f c.pass.new.self c.self.invariant h c.pass.ensures.done c.pass.ensures.broken c.pass.ensures.fits

pub invariant_of-self-2 : goal.invariant_of-self-2
invariant_of-self-2 g c =
    let s = state_of c.self.inside.seats.items c.self.inside.browser c.self.inside.readers.items c.self.inside.forest.history in
    let f = c.index_mut.result.now in
    let h = read_at s c.args.self.now c.args.at f c.self.view_is c.requires c.index_mut.ensures.value in
    pass_kept c.pass.result s c.self.inside.places c.self.inside.forest.trees c.args.at f c.pass.new.self c.self.invariant h c.pass.ensures.done c.pass.ensures.broken c.pass.ensures.fits

pub returns-in_err-line : goal.returns-in_err-line
returns-in_err-line g c =
    let s = state_of c.self.inside.seats.items c.self.inside.browser c.self.inside.readers.items c.self.inside.forest.history in
    let f = c.index_mut.result.now in
    let h = read_at s c.args.self.now c.args.at f c.self.view_is c.requires c.index_mut.ensures.value in
    let p = err_from_is_err_and c.from_residual.result c.from_residual.ensures.1 in
    rw (p.1)
    (breaks (λ ls x k. broke_at s c.args.self.now c.args.at f x c.pass.new.self ls c.self.view_is c.self.invariant.stands.apart h k c.in_err-line.ensures.broken))

pub returns : goal.returns
returns g c =
    let s = state_of c.self.inside.seats.items c.self.inside.browser c.self.inside.readers.items c.self.inside.forest.history in
    let f = c.index_mut.result.now in
    let h = read_at s c.args.self.now c.args.at f c.self.view_is c.requires c.index_mut.ensures.value in
    tells c.hear.result c.in_ok-line.line c.hear.ensures
    (λ old new ok err x k. passed_at s c.args.self.now c.args.at f x c.pass.new.self c.in_ok-line.line c.hear.result old new c.self.view_is c.self.invariant.stands.apart h k c.in_ok-line.ensures.done ok err)
