-- What is known of code that some bytes spell.
use Rattle.std.proofs.Common.{◌≡◌, ◌⊎◌, ℕ, ◌+◌, ◌^◌, ◌<◌, ◌≤◌, ℤ, true, false, eqb, List, [], ◌∷◌, length, get_or, Option, Some, None, refl, sym, ap, subst, ◌∙◌, arith, inl, inr, All}
use Rattle.std.specs.{List.AllByRecursion, Int.w16}
use Rattle.std.proofs.lemmas.{Bool.eqb-true, List.length-append, List.Elements.All-from_recursion}
use Rattle.class_pool.specs.declared.pool.Entry.{Entry}
use Rattle.class_pool.proofs.Laws.{chosen}
use Rattle.code_decode.specs.declared.{instructions.RawOp.RawOp, decoding.Code.Code, opcodes.Shape.Shape}
use Rattle.code_decode.specs.{Opcodes.shape_of, Opcodes.takes_local, Instructions.op, Targets.is_start, Targets.leads, Targets.leads_to}
use Rattle.code_decode.specs.CodeGrammar.{ShapedText, WideArgsText, WideText, OpText, OpsText, CodeText}
use Rattle.code_decode.proofs.WholeLaw.{some_bytes}
use Rattle.code_decode.proofs.ArgFacts.{OneLocal, LocalPlus, ArgFacts, local_facts, increment_facts, arg_facts}

-- ---- the facts

-- the operands of an opcode without wide
pub record PlainFacts (slots : List (Option Entry)) (ops : List RawOp) (total opcode : ℕ) (args : List ℤ) : Type 0 where
  pub form : Shape
  pub shaped : shape_of opcode ≡ Some form
  pub operands : ArgFacts slots ops total form args

-- the operands behind wide: of a load or a store, or of iinc
abbrev pub WideFacts : ℕ → List ℤ → Type 0
WideFacts opcode args = ((takes_local opcode ≡ true) × OneLocal (2 ^ 16) args) ⊎ ((opcode ≡ 132) × LocalPlus (2 ^ 16) w16 args)

-- an instruction of a code of total bytes
pub record OpFacts (slots : List (Option Entry)) (ops : List RawOp) (total : ℕ) (o : RawOp) : Type 0 where
  pub inside : o.pc < total
  pub opcode : o.opcode < 2 ^ 8
  pub plain : o.wide ≡ false → PlainFacts slots ops total o.opcode o.args
  pub wide : o.wide ≡ true → WideFacts o.opcode o.args

-- the places ascend strictly, from this one on
abbrev pub Ascend : ℕ → List RawOp → Type 0
Ascend n [] = Unit {0}
Ascend n (o ∷ ops) = (n ≤ o.pc) × Ascend (o.pc + 1) ops

pub record CodeFacts (slots : List (Option Entry)) (code : Code) : Type 0 where
  pub some : 0 < length code.ops
  pub first : (d : RawOp) → (get_or code.ops 0 d).pc ≡ 0
  pub ascend : Ascend 0 code.ops
  pub not_empty : 0 < code.length
  pub short : code.length < 2 ^ 16
  pub each : All (OpFacts slots code.ops code.length) code.ops

-- ---- an instruction

-- what its text alone says
record OpSo (slots : List (Option Entry)) (ops : List RawOp) (total pc : ℕ) (o : RawOp) : Type 0 where
  here : o.pc ≡ pc
  opcode : o.opcode < 2 ^ 8
  plain : o.wide ≡ false → PlainFacts slots ops total o.opcode o.args
  wide : o.wide ≡ true → WideFacts o.opcode o.args

not_both : {X : Type 0} → true ≡ false → X
not_both e = absurd cc

shaped_made : (slots : List (Option Entry)) (ops : List RawOp) (total pc opcode : ℕ) (form : Option Shape) (text : List ℕ) (o : RawOp) → opcode < 2 ^ 8 → shape_of opcode ≡ form → ShapedText slots total pc opcode form text o
    → leads_to (is_start ops total) o ≡ true → OpSo slots ops total pc o
shaped_made slots ops total pc opcode None text o lt e s h = absurd s
shaped_made slots ops total pc opcode (Some form) text o lt e (args, s, is) h =
    let led : leads (Some form) (is_start ops total) args ≡ true = sym (ap (λ f. leads f (is_start ops total) args) e) ∙ ap (leads_to (is_start ops total)) (sym is) ∙ h in
    let plain : PlainFacts slots ops total opcode args = record { form = form; shaped = e; operands = arg_facts slots ops total pc form text args s led } in
    let made : OpSo slots ops total pc (op pc opcode false args) = record { here = refl; opcode = lt; plain = λ _. plain; wide = λ w. not_both (sym w) } in
    subst (OpSo slots ops total pc) (sym is) made

wide_args_made : (opcode : ℕ) (text : List ℕ) (args : List ℤ) → WideArgsText opcode text args → WideFacts opcode args
wide_args_made opcode text args s =
    chosen (takes_local opcode) _ _ s (λ h t. inl (h, local_facts w16 text args t)) (λ _ t. chosen (eqb opcode 132) _ _ t (λ h u. inr (eqb-true _ _ h, increment_facts w16 text args u)) (λ _ u. absurd u))

wide_made : (slots : List (Option Entry)) (ops : List RawOp) (total pc : ℕ) (text : List ℕ) (o : RawOp) → WideText pc text o → OpSo slots ops total pc o
wide_made slots ops total pc text o (opcode, one, more, e, s, (args, t, is)) =
    let wide : WideFacts opcode args = wide_args_made opcode more args t in
    let made : OpSo slots ops total pc (op pc opcode true args) = record { here = refl; opcode = s.1; plain = λ w. not_both w; wide = λ _. wide } in
    subst (OpSo slots ops total pc) (sym is) made

op_made : (slots : List (Option Entry)) (ops : List RawOp) (total pc : ℕ) (text : List ℕ) (o : RawOp) → OpText slots total pc text o → leads_to (is_start ops total) o ≡ true → OpSo slots ops total pc o
op_made slots ops total pc text o (opcode, one, more, e, s, t) h =
    chosen (eqb opcode 196) _ _ t (λ _ w. wide_made slots ops total pc more o w) (λ _ u. shaped_made slots ops total pc opcode (shape_of opcode) more o s.1 refl u h)

op_facts : (slots : List (Option Entry)) (ops : List RawOp) (total pc : ℕ) (o : RawOp) → pc < total → OpSo slots ops total pc o → OpFacts slots ops total o
op_facts slots ops total pc o lt so = record { inside = omega (arith, so.here, lt); opcode = so.opcode; plain = so.plain; wide = so.wide }

-- ---- instructions one after the other

abbrev Leads : List RawOp → ℕ → RawOp → Type 0
Leads ops total o = leads_to (is_start ops total) o ≡ true

all_facts : (slots : List (Option Entry)) (ops : List RawOp) (total pc : ℕ) (text : List ℕ) (xs : List RawOp) → pc + length text ≤ total → OpsText slots total pc text xs → AllByRecursion (Leads ops total) xs → AllByRecursion (OpFacts slots ops total) xs
all_facts slots ops total pc text [] le s h = tt
all_facts slots ops total pc text (o ∷ xs) le (one, more, e, s, others) h =
    let len : length text ≡ length one + length more = ap length e ∙ length-append one more in
    let some : 0 < length one = some_bytes slots total pc one o s in (
      op_facts slots ops total pc o (omega (arith, len, some, le)) (op_made slots ops total pc one o s h.0),
      all_facts slots ops total (pc + length one) more xs (omega (arith, len, le)) others h.1,
    )

ascending : (slots : List (Option Entry)) (ops : List RawOp) (total n pc : ℕ) (text : List ℕ) (xs : List RawOp) → n ≤ pc → OpsText slots total pc text xs → AllByRecursion (Leads ops total) xs → Ascend n xs
ascending slots ops total n pc text [] le s h = tt
ascending slots ops total n pc text (o ∷ xs) le (one, more, e, s, others) h =
    let so : OpSo slots ops total pc o = op_made slots ops total pc one o s h.0 in
    let here : o.pc ≡ pc = so.here in
    let some : 0 < length one = some_bytes slots total pc one o s in
    (omega (arith, here, le), ascending slots ops total (o.pc + 1) (pc + length one) more xs (omega (arith, here, some)) others h.1)

no_text : (text : List ℕ) → text ≡ [] → length text ≡ 0
no_text text e = ap length e

some_ops : (slots : List (Option Entry)) (total pc : ℕ) (text : List ℕ) (xs : List RawOp) → 0 < length text → OpsText slots total pc text xs → 0 < length xs
some_ops slots total pc text [] lt s = absurd (omega (arith, lt, no_text text s))
some_ops slots total pc text (o ∷ xs) lt s = omega arith

first_pc : (slots : List (Option Entry)) (ops : List RawOp) (total : ℕ) (text : List ℕ) (xs : List RawOp) → 0 < length text → OpsText slots total 0 text xs → AllByRecursion (Leads ops total) xs → (d : RawOp) → (get_or xs 0 d).pc ≡ 0
first_pc slots ops total text [] lt s h d = absurd (omega (arith, lt, no_text text s))
first_pc slots ops total text (o ∷ xs) lt (one, more, e, s, others) h d = let so : OpSo slots ops total 0 o = op_made slots ops total 0 one o s h.0 in so.here

-- ---- the code

pub code_facts : (slots : List (Option Entry)) (text : List ℕ) (code : Code) → 0 < length text → length text < 2 ^ 16 → CodeText slots text code → CodeFacts slots code
code_facts slots text code some short c =
    let each : AllByRecursion (OpFacts slots code.ops (length text)) code.ops = all_facts slots code.ops (length text) 0 text code.ops (omega arith) c.instructions c.targets in
    record {
      some = some_ops slots (length text) 0 text code.ops some c.instructions;
      first = first_pc slots code.ops (length text) text code.ops some c.instructions c.targets;
      ascend = ascending slots code.ops (length text) 0 0 text code.ops (omega arith) c.instructions c.targets;
      not_empty = subst (λ n. 0 < n) (sym c.len) some;
      short = subst (λ n. n < 2 ^ 16) (sym c.len) short;
      each = All-from_recursion (OpFacts slots code.ops code.length) code.ops (subst (λ n. AllByRecursion (OpFacts slots code.ops n) code.ops) (sym c.len) each);
    }
