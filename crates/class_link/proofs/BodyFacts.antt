-- A linked body is as the code grammar allows.
use Rattle.std.proofs.Common.{◌≡◌, ℕ, ◌+◌, ◌%◌, ◌^◌, ◌<◌, ◌≤◌, ℤ, pos, ◌+ℤ◌, ◌≤ℤ◌, Bool, true, false, cond, eqb, leb, ◌||◌, List, [], ◌∷◌, length, map, drop, get_or, Option, Some, None, refl, sym, ap, subst, ◌∙◌, arith, inl, inr}
use Rattle.std.specs.Prelude.{IfSome, option_map}
use Rattle.std.specs.Int.{w32, cast_unsigned}
use Rattle.std.proofs.lemmas.{Bool.Decides.nat_tests, List.Elements.All-map, List.Elements.All-weaker, List.length-map}
use Rattle.class_pool.specs.{declared.pool.Entry.Entry, Pool.entry_of}
use Rattle.class_pool.specs.declared.pool.Entry.TheVariants as entry
use Rattle.code_decode.specs.{declared.instructions.RawOp.RawOp, Targets.has_start, Judging.class_name, Judging.dimensions}
use Rattle.code_decode.proofs.ArgFacts as args
use Rattle.code_decode.proofs.ArgFacts.{OnePlace, TableFacts, LookupFacts, IndexCount, MakesArrays, KeysRise, in_turn, table_end}
use Rattle.code_decode.proofs.CodeFacts.{OpFacts, Ascend, CodeFacts}
use Rattle.class_reader.specs.declared.parts.{CodePart.CodePart, RawHandler.RawHandler}
use Rattle.class_reader.proofs.PartFacts.{HandlerFacts, PartFacts}
use Rattle.et_base.specs.Names.{starts_array}
use Rattle.jvm_model.specs.declared.values.{Value.Value, Value.TheVariants.Obj, Base.Base, Kind.Kind}
use Rattle.jvm_model.specs.declared.values.Kind.TheVariants as kind
use Rattle.jvm_model.specs.declared.instr.Instr.TheVariants as form
use Rattle.jvm_model.specs.declared.program.{Program.Program, Body.Body, Placed.Placed}
use Rattle.jvm_model.specs.Linked.{IsForm, IsPlace, IsHandler, IsBody, KeysAscend, Ascends, place_listed, dims_of}
use Rattle.code_forms.specs.declared.references.Target.TheVariants as target
use Rattle.class_link.specs.ClassNames.{text_at, class_number, base_of, array_kind, kind_of}
use Rattle.class_link.specs.{References.LinkEnvironment, References.target_of, Bodies.placed, Bodies.handler_rec, Bodies.linked_body}
use Rattle.code_forms.specs.{Operands.number_in, Operands.index_in, Forms.form_of}
use Rattle.code_forms.specs.Forms as forms
use Rattle.code_forms.proofs.FormCases.{form_case, field_case, method_case, type_case}
use Rattle.code_forms.proofs.FormFacts.{IsConstant, IsTarget, MakesNested, plain_form}
use Rattle.code_forms.proofs.ShapeFacts.{branch_args, null_args, far_args, table_args, look_up_args, nested_args, first_index}

-- ---- arrays of several dimensions

-- an array's kind has the dimensions of its name
array_dims : (d : ℕ) (b : Option Base) (k : Kind) → option_map (λ b. kind.Array d b) b ≡ Some k → dims_of k ≡ d
array_dims d None k e = absurd cc
array_dims d (Some b) k e = let is : kind.Array d b ≡ k = cc in sym (ap dims_of is)

within_dims : (fits : Bool) (d : ℕ) (b : Option Base) (k : Kind) → cond fits (option_map (λ b. kind.Array d b) b) None ≡ Some k → dims_of k ≡ d
within_dims true d b k e = array_dims d b k e
within_dims false d b k e = absurd cc

has_brackets : (name : List ℕ) → 0 < dimensions name → starts_array name ≡ true
has_brackets [] some = absurd (omega (arith, some))
has_brackets (u ∷ us) some = elim (eqb u 91) as (λ b. eqb u 91 ≡ b → b ≡ true) [
  | true ↦ λ e. refl
  | false ↦ λ e. absurd (let none : dimensions (u ∷ us) ≡ 0 = rw e refl in omega (arith, some, none))
] refl

kind_dims : (names : List (List ℕ)) (name : List ℕ) (k : Kind) → 0 < dimensions name → kind_of names name ≡ Some k → dims_of k ≡ dimensions name
unfolding kind_of
kind_dims names name k some e =
    let array : array_kind names name ≡ Some k = sym (ap (λ b. cond b (array_kind names name) (option_map (λ c. kind.Class c) (class_number names name))) (has_brackets name some)) ∙ e in
    within_dims (leb (dimensions name) 255) (dimensions name) (base_of names (drop (dimensions name) name)) k array

typed_only : (k : Option Kind) (j : Kind) → option_map (λ k. target.Type k) k ≡ Some (target.Type j) → k ≡ Some j
typed_only None j e = absurd cc
typed_only (Some k) j e = cc

-- the type that an array class stands for has the dimensions of its name
pub type_dims : (s : LinkEnvironment) (slots : List (Option Entry)) (e : Option Entry) (k : Kind) → 0 < dimensions (class_name slots e) → target_of s slots e ≡ Some (target.Type k) → dims_of k ≡ dimensions (class_name slots e)
unfolding target_of
type_dims s slots (Some (entry.Class name)) k some e = kind_dims s.names (text_at slots name) k some (typed_only (kind_of s.names (text_at slots name)) k e)
type_dims s slots _ k some e = absurd (omega (arith, some))

-- multianewarray makes one dimension at least, and no more than its type has
pub makes_nested : (s : LinkEnvironment) (slots : List (Option Entry)) (ops : List RawOp) (total : ℕ) (o : RawOp) → OpFacts slots ops total o → MakesNested o (target_of s slots (entry_of slots (index_in o)))
makes_nested s slots ops total o facts typed single k is =
    let n : IndexCount (MakesArrays slots) o.args = nested_args slots ops total o facts typed single in
    let index : index_in o ≡ n.index = first_index o n.index (pos n.count ∷ []) n.is n.small in
    let count : number_in o 1 ≡ n.count = ap (λ (args : List ℤ). cast_unsigned w32 (get_or args 1 (pos 0))) n.is in
    let few : n.count < 2 ^ 8 = n.few in
    let made : number_in o 1 % 256 ≡ n.count = omega (arith, count, few) in
    let some : 0 < n.count = n.so.1 in
    let most : n.count ≤ dimensions (class_name slots (entry_of slots n.index)) = n.so.2 in
    let dims : dims_of k ≡ dimensions (class_name slots (entry_of slots n.index)) =
    type_dims s slots (entry_of slots n.index) k (omega (arith, some, most)) (sym (ap (λ i. target_of s slots (entry_of slots i)) index) ∙ is) in
    (omega (arith, made, some), omega (arith, made, most, dims))

-- ---- the form of an instruction

-- the places of the instructions are places of the body
abbrev pub HasPlaces : List RawOp → Body → Type 0
HasPlaces ops b = (n : ℕ) → has_start ops n ≡ true → IsPlace b n

place_of : (ops : List RawOp) (total : ℕ) (b : Body) (z : ℤ) → HasPlaces ops b → args.IsPlace ops total z → IsPlace b (cast_unsigned w32 z)
place_of ops total b z has p = subst (IsPlace b) (sym (ap (λ y. cast_unsigned w32 y) p.is)) (has p.at p.begins)

first_place : (ops : List RawOp) (total : ℕ) (b : Body) (o : RawOp) → HasPlaces ops b → OnePlace ops total o.args → IsPlace b (number_in o 0)
first_place ops total b o has p = subst (IsPlace b) (sym (ap (λ (args : List ℤ). cast_unsigned w32 (get_or args 0 (pos 0))) p.is)) (place_of ops total b p.to has p.place)

table_form : (ops : List RawOp) (total : ℕ) (b : Body) (xs : List ℤ) → HasPlaces ops b → TableFacts ops total xs → IsForm b (form.Table (get_or xs 1 (pos 0)) (forms.places (drop 3 xs)) (cast_unsigned w32 (get_or xs 0 (pos 0))))
table_form ops total b xs has t =
    let end = table_end ops total xs t in
    let same : length (forms.places t.places) ≡ length t.places = length-map t.places (λ z. cast_unsigned w32 z) in
    let whole : IsForm b (form.Table t.low (forms.places t.places) (cast_unsigned w32 t.other)) = (
      subst (λ n. 0 < n) (sym same) end.1,
      subst (λ n. (t.low +ℤ pos n) ≤ℤ pos (2 ^ 31)) (sym same) end.0,
      All-map (IsPlace b) (λ z. cast_unsigned w32 z) t.places (All-weaker (args.IsPlace ops total) (λ z. IsPlace b (cast_unsigned w32 z)) (λ z p. place_of ops total b z has p) t.places t.all_places),
      place_of ops total b t.other has t.other_place,
    ) in
    subst (λ xs. IsForm b (form.Table (get_or xs 1 (pos 0)) (forms.places (drop 3 xs)) (cast_unsigned w32 (get_or xs 0 (pos 0))))) (sym t.is) whole

abbrev as_row : ℤ × ℤ → ℤ × ℕ
as_row p = (p.0, cast_unsigned w32 p.1)

rows_of : (ps : List (ℤ × ℤ)) → forms.pairs (in_turn ps) ≡ map as_row ps
rows_of [] = refl
rows_of (p ∷ ps) = ap (λ rows. as_row p ∷ rows) (rows_of ps)

keys_ascend : (ps : List (ℤ × ℤ)) → KeysRise ps → KeysAscend (map as_row ps)
keys_ascend [] h = tt
keys_ascend (p ∷ []) h = tt
keys_ascend (p ∷ q ∷ ps) h = (h.0, keys_ascend (q ∷ ps) h.1)

lookup_form : (ops : List RawOp) (total : ℕ) (b : Body) (xs : List ℤ) → HasPlaces ops b → LookupFacts ops total xs → IsForm b (form.Lookup (forms.pairs (drop 1 xs)) (cast_unsigned w32 (get_or xs 0 (pos 0))))
lookup_form ops total b xs has t =
    let whole : IsForm b (form.Lookup (map as_row t.pairs) (cast_unsigned w32 t.other)) = (
      keys_ascend t.pairs t.rise,
      All-map (λ x. IsPlace b x.1) as_row t.pairs (All-weaker (λ p. args.IsPlace ops total p.1) (λ p. IsPlace b (cast_unsigned w32 p.1)) (λ p h. place_of ops total b p.1 has h) t.pairs t.all_places),
      place_of ops total b t.other has t.other_place,
    ) in
    subst (λ xs. IsForm b (form.Lookup (forms.pairs (drop 1 xs)) (cast_unsigned w32 (get_or xs 0 (pos 0))))) (sym t.is)
    (subst (λ rows. IsForm b (form.Lookup rows (cast_unsigned w32 t.other))) (sym (rows_of t.pairs)) whole)

constant_form : (p : Program) (b : Body) (v : Value) → IsConstant p v → IsForm b (form.Const v)
constant_form p b (Obj o) h = h
constant_form p b _ h = tt

-- an instruction's form is as the grammar asks, where its target is in a program
pub is_form : (p : Program) (s : LinkEnvironment) (slots : List (Option Entry)) (ops : List RawOp) (total : ℕ) (b : Body) (o : RawOp) → HasPlaces ops b → OpFacts slots ops total o → IfSome (target_of s slots (entry_of slots (index_in o))) (IsTarget p) → IsForm b (form_of (target_of s slots (entry_of slots (index_in o))) o)
is_form p s slots ops total b o has facts there = form_case (IsForm b) (target_of s slots (entry_of slots (index_in o))) o (record {
  plain = λ f is. (plain_form b p 0 f is).0;
  constant = λ _ _ v is. constant_form p b v (subst (λ t. IfSome t (IsTarget p)) is there);
  if_zero = λ low high. first_place ops total b o has (branch_args slots ops total o facts low (omega (arith, high)));
  if_ints = λ low high. first_place ops total b o has (branch_args slots ops total o facts (omega (arith, low)) (omega (arith, high)));
  if_refs = λ low high. first_place ops total b o has (branch_args slots ops total o facts (omega (arith, low)) (omega (arith, high)));
  if_null = λ low high. first_place ops total b o has (null_args slots ops total o facts low high);
  goto = λ at. elim at [
    | inl near ↦ first_place ops total b o has (branch_args slots ops total o facts (omega (arith, near)) (omega (arith, near)))
    | inr far ↦ first_place ops total b o has (far_args slots ops total o facts far)
  ];
  table = λ is. table_form ops total b o.args has (table_args slots ops total o facts is);
  look_up = λ is. lookup_form ops total b o.args has (look_up_args slots ops total o facts is);
  field = λ _ _ c f _. field_case (IsForm b) o.opcode c f (λ _. tt) (λ _. tt) (λ _. tt) (λ _ _ _. tt);
  method = λ _ _ k m _. method_case (IsForm b) o.opcode k m (λ _. tt) (λ _. tt) (λ _. tt) (λ _ _ _. tt);
  numbers = λ _. tt;
  type = λ typed k is. type_case (IsForm b) o k tt tt tt tt (λ single. makes_nested s slots ops total o facts typed single k is);
})

-- ---- the body

eqb_sym : (a b : ℕ) → eqb a b ≡ eqb b a
eqb_sym a b = grind (arith, nat_tests)

listed_same : (s : LinkEnvironment) (slots : List (Option Entry)) (ops : List RawOp) (n : ℕ) → place_listed n (map (placed s slots) ops) ≡ has_start ops n
listed_same s slots [] n = refl
listed_same s slots (o ∷ ops) n = (λ i. eqb_sym n o.pc i || listed_same s slots ops n i)

ascends_same : (s : LinkEnvironment) (slots : List (Option Entry)) (n : ℕ) (ops : List RawOp) → Ascend n ops → Ascends n (map (placed s slots) ops)
ascends_same s slots n [] h = tt
ascends_same s slots n (o ∷ ops) h = (h.0, ascends_same s slots (o.pc + 1) ops h.1)

first_same : (s : LinkEnvironment) (slots : List (Option Entry)) (ops : List RawOp) (d : Placed) (e : RawOp) → 0 < length ops → (get_or (map (placed s slots) ops) 0 d).pc ≡ (get_or ops 0 e).pc
first_same s slots [] d e some = absurd (omega (arith, some))
first_same s slots (o ∷ ops) d e some = refl

handler_is : (s : LinkEnvironment) (slots : List (Option Entry)) (code : CodePart) (b : Body) (h : RawHandler) → HasPlaces code.code.ops b → b.length ≡ code.code.length → HandlerFacts slots code.code h → IsHandler b (handler_rec s.names slots h)
handler_is s slots code b h has len facts = record {
  from = has h.from facts.from.begins;
  to = elim facts.to [ inl at ↦ inl (has h.to at.begins) | inr end ↦ inr (end ∙ sym len) ];
  order = facts.order;
  at = has h.at facts.at.begins;
}

pub is_body : (p : Program) (s : LinkEnvironment) (slots : List (Option Entry)) (code : CodePart) → PartFacts slots code → ((o : RawOp) → IfSome (target_of s slots (entry_of slots (index_in o))) (IsTarget p)) → IsBody (linked_body s slots code)
unfolding linked_body
is_body p s slots code facts there =
    let b = linked_body s slots code in
    let ops = code.code.ops in
    let c : CodeFacts slots code.code = facts.code in
    let has : HasPlaces ops b = λ n h. listed_same s slots ops n ∙ h in
    let e : RawOp = record { pc = 0; opcode = 0; wide = false; args = [] } in
    record {
      some = subst (λ n. 0 < n) (sym (length-map ops (placed s slots))) c.some;
      first = first_same s slots ops _ e c.some ∙ c.first e;
      ascending = ascends_same s slots 0 ops c.ascend;
      within = All-map (λ x. x.pc < code.code.length) (placed s slots) ops (All-weaker (OpFacts slots ops code.code.length) (λ o. o.pc < code.code.length) (λ o h. h.inside) ops c.each);
      short = c.short;
      forms = All-map (λ x. IsForm b x.form) (placed s slots) ops (All-weaker (OpFacts slots ops code.code.length) (λ o. IsForm b (placed s slots o).form) (λ o h. is_form p s slots ops code.code.length b o has h (there o)) ops c.each);
      handlers = All-map (IsHandler b) (handler_rec s.names slots) code.handlers (All-weaker (HandlerFacts slots code.code) (λ h. IsHandler b (handler_rec s.names slots h)) (λ h f. handler_is s slots code b h has refl f) code.handlers facts.handlers);
    }
