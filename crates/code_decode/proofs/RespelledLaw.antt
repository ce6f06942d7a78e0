-- What is spelled is spelled by its spelling, too.
use Rattle.std.proofs.Common.{◌≡◌, ℕ, ◌+◌, Bool, true, false, not, cond, eqb, ◌&&◌, ◌||◌, List, [], ◌∷◌, ◌++◌, length, Option, Some, None, refl, sym, ap, subst, ◌∙◌}
use Rattle.std.specs.Prelude.{ℤ, pos, negsuc}
use Rattle.std.specs.{List.AllByRecursion, List.flat_map, List.list_all, List.enumerate_from, Int.w8, Int.w16, Int.w32, Int.to_be_bytes}
use Rattle.std.proofs.lemmas.{Bool.eqb-true, Bool.and_parts, List.length-append}
use Rattle.class_pool.specs.{declared.pool.Entry.Entry, Pool.entry_of}
use Rattle.et_base.proofs.Cases.{by_test}
use Rattle.code_decode.specs.declared.{instructions.RawOp.RawOp, decoding.Code.Code, opcodes.Shape.Shape}
use Rattle.code_decode.specs.declared.opcodes.Shape.TheVariants as shape
use Rattle.code_decode.specs.{Opcodes.shape_of, Opcodes.takes_local, Judging.constant_fit, Judging.named_fit, Judging.kind_fit}
use Rattle.code_decode.specs.Targets.{is_place, leads, leads_to, is_start}
use Rattle.code_decode.specs.CodeGrammar.{OneText, IncrementText, ArgsText, ShapedText, WideArgsText, WideText, OpText, OpsText, CodeText}
use Rattle.code_decode.specs.Spelling.{number_bytes, signed_bytes, one_bytes, two_bytes, args_bytes, shaped_bytes, wide_args_bytes, op_bytes, code_spelling}
use Rattle.code_decode.proofs.SpellingLaw.{turns8, turns16, turns32, is_inside, signed_same, one_same, branch_same, increment_same, fitting_same, interface_same, dimensions_same}
use Rattle.code_decode.proofs.SpellingSwitches.{Respelled, respelled_same, table_again, lookup_again}

abbrev Slots : Type 0
Slots = List (Option Entry)

args_again : (slots : Slots) (total pc : ℕ) (form : Shape) (text : List ℕ) (args : List ℤ) → ArgsText slots total pc form text args → leads (Some form) is_inside args ≡ true → Respelled (ArgsText slots total pc form) text (args_bytes pc form args) args
args_again slots total pc shape.Plain text args s h = respelled_same _ text _ args s s.0
args_again slots total pc shape.Byte text args s h = respelled_same _ text _ args s (one_same w8 _ (signed_bytes w8) (λ n lt. signed_same w8 n turns8 lt) text args s)
args_again slots total pc shape.Short text args s h = respelled_same _ text _ args s (one_same w16 _ (signed_bytes w16) (λ n lt. signed_same w16 n turns16 lt) text args s)
args_again slots total pc shape.Local text args s h = respelled_same _ text _ args s (one_same w8 _ (number_bytes w8) (λ n lt. refl) text args s)
args_again slots total pc shape.Increment text args s h = respelled_same _ text _ args s (increment_same w8 turns8 text args s)
args_again slots total pc (shape.Near constant) text args s h = respelled_same _ text _ args s (fitting_same w8 (λ n. constant_fit constant (entry_of slots n)) text args s)
args_again slots total pc (shape.Far constant) text args s h = respelled_same _ text _ args s (fitting_same w16 (λ n. constant_fit constant (entry_of slots n)) text args s)
args_again slots total pc (shape.Entry named) text args s h = respelled_same _ text _ args s (fitting_same w16 (λ n. named_fit named slots (entry_of slots n)) text args s)
args_again slots total pc shape.Interface text args s h = respelled_same _ text _ args s (interface_same slots text args s)
args_again slots total pc shape.Kind text args s h = respelled_same _ text _ args s (fitting_same w8 kind_fit text args s)
args_again slots total pc shape.Dimensions text args s h = respelled_same _ text _ args s (dimensions_same slots text args s)
args_again slots total pc shape.Branch text args s h = respelled_same _ text _ args s (branch_same w16 total pc turns16 text args s h)
args_again slots total pc shape.FarBranch text args s h = respelled_same _ text _ args s (branch_same w32 total pc turns32 text args s h)
args_again slots total pc shape.Table text args s h = table_again total pc text args s h
args_again slots total pc shape.Lookup text args s h = lookup_again total pc text args s h

shaped_again : (slots : Slots) (total pc opcode : ℕ) (form : Option Shape) (text : List ℕ) (o : RawOp) → ShapedText slots total pc opcode form text o → leads form is_inside o.args ≡ true → Respelled (ShapedText slots total pc opcode form) text (shaped_bytes pc form o.args) o
shaped_again slots total pc opcode None text o s h = absurd s
shaped_again slots total pc opcode (Some form) text o (args, s, is) h =
    let same : o.args ≡ args = ap (λ (o : RawOp). o.args) is in
    let r = args_again slots total pc form text args s (ap (leads (Some form) is_inside) (sym same) ∙ h) in
    let made : Respelled (ShapedText slots total pc opcode (Some form)) text (args_bytes pc form args) o = record { spelled = (args, r.spelled, is); len = r.len } in
    subst (λ a. Respelled (ShapedText slots total pc opcode (Some form)) text (args_bytes pc form a) o) (sym same) made

wide_args_same : (opcode : ℕ) (text : List ℕ) (args : List ℤ) → WideArgsText opcode text args → text ≡ wide_args_bytes opcode args
wide_args_same opcode text args s =
    elim (takes_local opcode) as (λ b. cond b (OneText w16 (λ n. pos n) text args) (cond (eqb opcode 132) (IncrementText w16 text args) ⊥) → text ≡ cond b (one_bytes (number_bytes w16) args) (two_bytes (number_bytes w16) (signed_bytes w16) args)) [
      | true ↦ λ t. one_same w16 (λ n. pos n) (number_bytes w16) (λ n lt. refl) text args t
      | false ↦ λ t. elim (eqb opcode 132) as (λ b. cond b (IncrementText w16 text args) ⊥ → text ≡ two_bytes (number_bytes w16) (signed_bytes w16) args) [ true ↦ λ u. increment_same w16 turns16 text args u | false ↦ λ u. absurd u ] t
    ] s

wide_same : (pc : ℕ) (text : List ℕ) (o : RawOp) → WideText pc text o → text ≡ to_be_bytes w8 o.opcode ++ wide_args_bytes o.opcode o.args
wide_same pc text o (opcode, one, more, e, s, (args, t, is)) =
    e ∙ ap (λ o. o ++ more) s.0 ∙ ap (λ m. to_be_bytes w8 opcode ++ m) (wide_args_same opcode more args t)
    ∙ ap (λ (o : RawOp). to_be_bytes w8 o.opcode ++ wide_args_bytes o.opcode o.args) (sym is)

-- ---- instructions

shaped_is : (slots : Slots) (total pc opcode : ℕ) (form : Option Shape) (text : List ℕ) (o : RawOp) → ShapedText slots total pc opcode form text o → (o.opcode ≡ opcode) × (o.wide ≡ false) × (o.pc ≡ pc)
shaped_is slots total pc opcode None text o s = absurd s
shaped_is slots total pc opcode (Some form) text o (args, s, is) = (ap (λ (o : RawOp). o.opcode) is, ap (λ (o : RawOp). o.wide) is, ap (λ (o : RawOp). o.pc) is)

wide_is : (pc : ℕ) (text : List ℕ) (o : RawOp) → WideText pc text o → o.wide ≡ true
wide_is pc text o (opcode, one, more, e, s, (args, t, is)) = ap (λ (o : RawOp). o.wide) is

abbrev wide_part : RawOp → List ℕ
wide_part o = to_be_bytes w8 196 ++ (to_be_bytes w8 o.opcode ++ wide_args_bytes o.opcode o.args)

abbrev plain_part : RawOp → List ℕ
plain_part o = to_be_bytes w8 o.opcode ++ shaped_bytes o.pc (shape_of o.opcode) o.args

op_again : (slots : Slots) (total pc : ℕ) (text : List ℕ) (o : RawOp) → OpText slots total pc text o → leads_to is_inside o ≡ true → Respelled (OpText slots total pc) text (op_bytes o) o
op_again slots total pc text o (opcode, one, more, e, s, t) inside = by_test (eqb opcode 196)
    (λ yes.
    let w : WideText pc more o = subst (λ b. cond b (WideText pc more o) (ShapedText slots total pc opcode (shape_of opcode) more o)) yes t in
    let same : text ≡ wide_part o = e ∙ ap (λ x. x ++ more) (s.0 ∙ ap (to_be_bytes w8) (eqb-true _ _ yes)) ∙ ap (λ m. to_be_bytes w8 196 ++ m) (wide_same pc more o w) in
    respelled_same (OpText slots total pc) text (op_bytes o) o (opcode, one, more, e, s, t) (same ∙ ap (λ b. cond b (wide_part o) (plain_part o)) (sym (wide_is pc more o w))))
    (λ no.
    let w : ShapedText slots total pc opcode (shape_of opcode) more o = subst (λ b. cond b (WideText pc more o) (ShapedText slots total pc opcode (shape_of opcode) more o)) no t in
    let is = shaped_is slots total pc opcode (shape_of opcode) more o w in
    let h : leads (shape_of opcode) is_inside o.args ≡ true = ap (λ k. leads (shape_of k) is_inside o.args) (sym is.0) ∙ inside in
    let r = shaped_again slots total pc opcode (shape_of opcode) more o w h in
    let now : List ℕ = shaped_bytes pc (shape_of opcode) o.args in
    let made : Respelled (OpText slots total pc) text (to_be_bytes w8 opcode ++ now) o = record {
      spelled = (opcode, to_be_bytes w8 opcode, now, refl, (refl, s.1), subst (λ b. cond b (WideText pc now o) (ShapedText slots total pc opcode (shape_of opcode) now o)) (sym no) r.spelled);
      len = length-append (to_be_bytes w8 opcode) now ∙ ap (λ n. length (to_be_bytes w8 opcode) + n) r.len ∙ ap (λ n. n + length more) (ap length (sym s.0)) ∙ sym (length-append one more) ∙ ap length (sym e);
    } in
    let same : to_be_bytes w8 opcode ++ now ≡ op_bytes o =
    ap (λ k. to_be_bytes w8 k ++ shaped_bytes pc (shape_of k) o.args) (sym is.0) ∙ ap (λ p. to_be_bytes w8 o.opcode ++ shaped_bytes p (shape_of o.opcode) o.args) (sym is.2) ∙ ap (λ b. cond b (wide_part o) (plain_part o)) (sym is.1) in
    subst (λ b. Respelled (OpText slots total pc) text b o) same made)

ops_respelled : (slots : Slots) (total : ℕ) (ops : List RawOp) (pc : ℕ) (text : List ℕ) → OpsText slots total pc text ops → AllByRecursion (λ o. leads_to is_inside o ≡ true) ops
    → OpsText slots total pc (flat_map op_bytes ops) ops × (length (flat_map op_bytes ops) ≡ length text)
ops_respelled slots total [] pc text s h = (refl, sym (ap length s))
ops_respelled slots total (o ∷ ops) pc text (one, more, e, s, others) (h, hs) =
    let r = op_again slots total pc one o s h in
    let u = ops_respelled slots total ops (pc + length one) more others hs in
    let rest : OpsText slots total (pc + length (op_bytes o)) (flat_map op_bytes ops) ops = subst (λ n. OpsText slots total (pc + n) (flat_map op_bytes ops) ops) (sym r.len) u.0 in (
      (op_bytes o, flat_map op_bytes ops, refl, r.spelled, rest),
      length-append (op_bytes o) (flat_map op_bytes ops) ∙ ap (λ n. n + length (flat_map op_bytes ops)) r.len ∙ ap (λ n. length one + n) u.1 ∙ sym (length-append one more) ∙ ap length (sym e),
    )

-- ---- the whole

start_inside : (ops : List RawOp) (total : ℕ) (z : ℤ) (b : Bool) → (not b || is_start ops total z) ≡ true → (not b || is_inside z) ≡ true
start_inside ops total (pos n) true h = refl
start_inside ops total (pos n) false h = refl
start_inside ops total (negsuc n) true h = h
start_inside ops total (negsuc n) false h = refl

all_weaker : {X : Type 0} (p q : X → Bool) → ((x : X) → p x ≡ true → q x ≡ true) → (xs : List X) → list_all p xs ≡ true → list_all q xs ≡ true
all_weaker p q weaker [] h = refl
all_weaker p q weaker (x ∷ xs) h =
    let both = and_parts (p x) (list_all p xs) h in
    ap (λ b. b && list_all q xs) (weaker x both.0) ∙ all_weaker p q weaker xs both.1

all_inside : (all : List RawOp) (total : ℕ) (ops : List RawOp) → AllByRecursion (λ o. leads_to (is_start all total) o ≡ true) ops → AllByRecursion (λ o. leads_to is_inside o ≡ true) ops
all_inside all total [] h = tt
all_inside all total (o ∷ ops) (h, hs) = (all_weaker _ _ (λ p. start_inside all total p.1 (is_place (shape_of o.opcode) p.0)) (enumerate_from 0 o.args) h, all_inside all total ops hs)

-- A code that some bytes spell is spelled by its spelling.
pub code_respelled : (slots : Slots) (text : List ℕ) (code : Code) → CodeText slots text code → CodeText slots (code_spelling code) code
code_respelled slots text code s =
    let u = ops_respelled slots (length text) code.ops 0 text s.instructions (all_inside code.ops (length text) code.ops s.targets) in
    record {
      len = s.len ∙ sym u.1;
      instructions = subst (λ n. OpsText slots n 0 (code_spelling code) code.ops) (sym u.1) u.0;
      targets = subst (λ n. AllByRecursion (λ o. leads_to (is_start code.ops n) o ≡ true) code.ops) (sym u.1) s.targets;
    }
