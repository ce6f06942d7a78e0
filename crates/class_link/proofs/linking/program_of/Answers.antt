use Rattle.std.proofs.Common.{◌≡◌, ◌∙◌, ℕ, List, ap}
use Rattle.class_reader.specs.declared.parts.{ClassParts.ClassParts, CodePart.CodePart}
use Rattle.class_link.specs.{Assembly.bodies_of, Assembly.assembled, Bodies.linked_body, References.LinkEnvironment, Link.setting}
use Rattle.class_link.proofs.linking.program_of.Goals as goal

pub returns : goal.returns
returns c =
    let cs = c.args.classes.now in
    let is = c.requires.setting in
    let body = λ (x : ClassParts) (code : CodePart). linked_body (setting cs) x.pool code in
    let bodies : c.in_ok-bodies.bodies ≡ bodies_of body cs = c.in_ok-bodies.ensures ∙ ap (λ (s : LinkEnvironment). bodies_of (λ x code. linked_body s x.pool code) cs) is in
    c.with_bodies.ensures body cs (ap (λ (s : LinkEnvironment). s.program) is) bodies ∙ ap (λ (xs : List (List ℕ × List ℕ)). assembled body cs c.args.tests xs) c.in_ok-files.ensures
