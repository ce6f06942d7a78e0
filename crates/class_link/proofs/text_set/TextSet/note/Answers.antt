use Rattle.std.proofs.Common.{◌≡◌, ◌∙◌, ap, sym, ℕ, List, ◌++◌, ◌∷◌, [], length, not, cond, Bool, false}
use Rattle.std.specs.{List.list_any, Str.bytes_eq}
use Rattle.class_link.proofs.TextLaws.{text_among, placed_more}
use Rattle.class_link.proofs.text_set.TextSet.note.Goals as goal

pub returns-then-contains_key-clause-is_new : goal.returns-then-contains_key-clause-is_new
returns-then-contains_key-clause-is_new c =
    let among = text_among c.self.inside.texts.items c.self.inside.places c.args.text.now c.self.invariant ∙ ap (list_any (bytes_eq c.args.text.now)) c.self.view_is in
    ap not (sym c.if-contains_key.true ∙ c.contains_key.ensures ∙ among)

pub returns-then-contains_key-clause-texts : goal.returns-then-contains_key-clause-texts
returns-then-contains_key-clause-texts c =
    let among = text_among c.self.inside.texts.items c.self.inside.places c.args.text.now c.self.invariant ∙ ap (list_any (bytes_eq c.args.text.now)) c.self.view_is in
    ap (λ (b : Bool). cond b c.args.self.now (c.args.self.now ++ c.args.text.now ∷ [])) (sym c.if-contains_key.true ∙ c.contains_key.ensures ∙ among)

pub returns-clause-is_new : goal.returns-clause-is_new
returns-clause-is_new c =
    let among = text_among c.self.inside.texts.items c.self.inside.places c.args.text.now c.self.invariant ∙ ap (list_any (bytes_eq c.args.text.now)) c.self.view_is in
    ap not (sym c.if-contains_key.false ∙ c.contains_key.ensures ∙ among)

pub returns-clause-texts : goal.returns-clause-texts
returns-clause-texts c =
    let among = text_among c.self.inside.texts.items c.self.inside.places c.args.text.now c.self.invariant ∙ ap (list_any (bytes_eq c.args.text.now)) c.self.view_is in
    c.push_reserved.ensures.items ∙ ap (λ (ts : List (List ℕ)). ts ++ c.in_ok-kept.kept ∷ []) (c.in_ok-reserve.ensures.items ∙ c.self.view_is)
    ∙ ap (λ (t : List ℕ). c.args.self.now ++ t ∷ []) c.in_ok-kept.ensures
    ∙ ap (λ (b : Bool). cond b c.args.self.now (c.args.self.now ++ c.args.text.now ∷ [])) (sym c.if-contains_key.false ∙ c.contains_key.ensures ∙ among)

pub invariant_of-self-2 : goal.invariant_of-self-2
invariant_of-self-2 c =
    let texts = c.self.inside.texts.items in
    let absent : list_any (bytes_eq c.args.text.now) texts ≡ false = sym (text_among texts c.self.inside.places c.args.text.now c.self.invariant) ∙ sym c.contains_key.ensures ∙ c.if-contains_key.false in
    placed_more texts c.push_reserved.new.self.items c.args.text.now c.in_ok-key.key c.len-place.result c.self.inside.places c.insert.new.self c.self.invariant absent c.in_ok-key.ensures.items
    (c.len-place.ensures ∙ sym (ap length c.self.view_is)) (rw c.self.view_is c.requires) c.in_ok-insert.ensures.updates
    (c.push_reserved.ensures.items ∙ ap (λ (ts : List (List ℕ)). ts ++ c.in_ok-kept.kept ∷ []) c.in_ok-reserve.ensures.items ∙ ap (λ (t : List ℕ). texts ++ t ∷ []) c.in_ok-kept.ensures)
