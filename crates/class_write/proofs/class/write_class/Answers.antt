use Rattle.std.proofs.Common.{sym, ap, subst, ◌∙◌}
use Rattle.std.proofs.lemmas.Result.{IfOk-weaker}
use Rattle.class_reader.specs.{ClassGrammar.class_bytes, Faults.class_of}
use Rattle.class_write.specs.Spelling.{class_spelling}
use Rattle.class_write.proofs.WriteLaw.{class_written, class_reread}
use Rattle.class_write.proofs.class.write_class.Goals as goal

pub returns-clause-bytes : goal.returns-clause-bytes
returns-clause-bytes c = IfOk-weaker c.spelling.result _ _ (λ v e. e ∙ ap class_spelling c.parts.ensures.gives) c.spelling.ensures

pub returns-clause-written : goal.returns-clause-written
returns-clause-written c =
    let parts = c.args.class.now in
    IfOk-weaker c.spelling.result _ _ (λ v e. subst (λ b. class_bytes b parts) (sym (e ∙ ap class_spelling c.parts.ensures.gives)) (class_written parts c.parts.ensures.kept)) c.spelling.ensures

pub returns-clause-again : goal.returns-clause-again
returns-clause-again c =
    let parts = c.args.class.now in
    IfOk-weaker c.spelling.result _ _ (λ v e. ap class_of (e ∙ ap class_spelling c.parts.ensures.gives) ∙ class_reread parts c.parts.ensures.kept) c.spelling.ensures
