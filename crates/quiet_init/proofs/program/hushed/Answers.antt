use Rattle.std.proofs.Common.{◌∙◌, ap, subst, sym}
use Rattle.jvm_model.specs.declared.program.Program.{Program}
use Rattle.type_frames.specs.Typing.{IsTyped, all_frames}
use Rattle.quiet_init.proofs.{Finished.put_together, Finished.long_flags, KeptRules.all_frames_kept, Typed.typed_kept}
use Rattle.quiet_init.proofs.program.hushed.Goals as goal

pub without_starts-requires : goal.without_starts-requires
without_starts-requires c = long_flags c.args.p c.args.flags.now c.into_parts-program.result.0 c.requires.flags c.into_parts-program.ensures.program

pub new-requires-clause-typed : goal.new-requires-clause-typed
new-requires-clause-typed c =
    let t = c.into_parts-program.ensures.typed in
    let put = put_together c.args.p c.args.flags.now c.args.openings.now c.into_parts-program.result.0 c.without_starts.result c.with_openings.result t.linked c.requires.flags c.requires.openings c.into_parts-program.ensures.program c.without_starts.ensures c.with_openings.ensures in
    subst (λ (r : Program). IsTyped r) (sym put) (typed_kept c.args.p t)

pub new-requires-clause-read : goal.new-requires-clause-read
new-requires-clause-read c =
    let t = c.into_parts-program.ensures.typed in
    let put = put_together c.args.p c.args.flags.now c.args.openings.now c.into_parts-program.result.0 c.without_starts.result c.with_openings.result t.linked c.requires.flags c.requires.openings c.into_parts-program.ensures.program c.without_starts.ensures c.with_openings.ensures in
    c.into_parts-program.ensures.frames ∙ (sym (all_frames_kept c.args.p) ∙ ap (λ (r : Program). all_frames r) (sym put))

pub returns : goal.returns
returns c =
    let t = c.into_parts-program.ensures.typed in
    let put = put_together c.args.p c.args.flags.now c.args.openings.now c.into_parts-program.result.0 c.without_starts.result c.with_openings.result t.linked c.requires.flags c.requires.openings c.into_parts-program.ensures.program c.without_starts.ensures c.with_openings.ensures in
    c.new.ensures ∙ put
