use Rattle.std.proofs.Common.{◌≡◌, ◌++◌, ◌∷◌, [], ◌+◌, length, drop, append_assoc, refl, ap, sym, ◌∙◌, arith}
use Rattle.std.proofs.lemmas.List.{at_drop_more}
use Rattle.class_reader.specs.declared.parts.ClassParts.{ClassParts}
use Rattle.jvm_model.specs.declared.program.ClassRec.{ClassRec}
use Rattle.class_link.specs.Assembly.{class_rec, class_recs}
use Rattle.class_link.proofs.ClassSizes.{few_fields, few_methods}
use Rattle.class_link.proofs.class_records.push_classes.Goals as goal

pub class_record-requires-clause-fields : goal.class_record-requires-clause-fields
class_record-requires-clause-fields c = omega (arith, few_fields c.parts-parts.result.now c.class-item.result c.parts-parts.ensures.gives c.parts-parts.ensures.kept)

pub class_record-requires-clause-methods : goal.class_record-requires-clause-methods
class_record-requires-clause-methods c = omega (arith, few_methods c.parts-parts.result.now c.class-item.result c.parts-parts.ensures.gives c.parts-parts.ensures.kept)

pub overflow_cast-field : goal.overflow_cast-field
overflow_cast-field c = omega (arith, c.len.ensures, few_fields c.parts-parts.result.now c.class-item.result c.parts-parts.ensures.gives c.parts-parts.ensures.kept)

pub overflow_add-field : goal.overflow_add-field
overflow_add-field c = omega (arith, c.len.ensures, few_fields c.parts-parts.result.now c.class-item.result c.parts-parts.ensures.gives c.parts-parts.ensures.kept)

pub overflow_cast-method : goal.overflow_cast-method
overflow_cast-method c = omega (arith, c.len-in-loop-class.ensures, few_methods c.parts-parts.result.now c.class-item.result c.parts-parts.ensures.gives c.parts-parts.ensures.kept)

pub overflow_add-method : goal.overflow_add-method
overflow_add-method c = omega (arith, c.len-in-loop-class.ensures, few_methods c.parts-parts.result.now c.class-item.result c.parts-parts.ensures.gives c.parts-parts.ensures.kept)

pub loop-class-preserved : goal.loop-class-preserved
loop-class-preserved c =
    let class = c.class-item.result in
    let i = c.loop-class.class-index in
    let classes = c.args.classes.now in
    let made = c.loop-class.made in
    let names = c.args.names.now in
    let field = c.loop-class.field in
    let method = c.loop-class.method in
    let pushed : c.push.new.self ≡ made ++ class_rec names field method class ∷ [] =
    c.in_ok-push.ensures.pushed ∙ ap (λ (x : ClassRec). made ++ x ∷ []) (c.in_ok-class_record.ensures ∙ ap (class_rec names field method) c.parts-parts.ensures.gives) in
    let fields : c.len.result ≡ length class.fields = c.len.ensures ∙ ap (λ (x : ClassParts). length x.fields) c.parts-parts.ensures.gives in
    let methods : c.len-in-loop-class.result ≡ length class.methods = c.len-in-loop-class.ensures ∙ ap (λ (x : ClassParts). length x.methods) c.parts-parts.ensures.gives in
    record {
      rest = rw (pushed, fields, methods)
          (append_assoc made (class_rec names field method class ∷ []) _
          ∙ ap (λ (x : ClassParts). made ++ class_recs names field method (x ∷ drop (i + 1) classes)) c.class-item.is
          ∙ sym (at_drop_more (λ xs. made ++ class_recs names field method xs) classes i class c.loop-class-test.true)
          ∙ c.loop-class.invariant.rest);
      fields = omega (arith, few_fields class class refl c.parts-parts.ensures.kept);
      methods = omega (arith, few_methods class class refl c.parts-parts.ensures.kept);
    }
