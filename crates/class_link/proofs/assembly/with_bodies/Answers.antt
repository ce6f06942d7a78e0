use Rattle.std.proofs.Common.{◌≡◌, ap, ◌∙◌, List}
use Rattle.jvm_model.specs.declared.program.MethodRec.{MethodRec}
use Rattle.class_link.specs.{Assembly.bodies_of, Filling.filled}
use Rattle.class_link.proofs.AssemblyLaws.{filled_program}
use Rattle.class_link.proofs.assembly.with_bodies.Goals as goal

pub returns : goal.returns
returns c = λ body cs is bodies.
    let methods : c.from_vec.result ≡ filled 102 (bodies_of body cs) c.args.program.methods = c.from_vec.ensures ∙ c.fill.ensures ∙ rw (c.into_vec.ensures, bodies, c.into_vec-methods.ensures) in
    ap (λ (ms : List MethodRec). record c.args.program { methods = ms; tests = c.args.tests; files = c.args.files }) methods
    ∙ filled_program c.args.program body cs c.args.tests c.args.files is
