-- The instructions of a code by number.
use Rattle.std.proofs.Common.{◌≡◌, ℕ, zero, suc, ◌<◌, ◌+◌, List, [], ◌∷◌, length, get_or, take, drop, ◌-◌, eqb, Bool, true, false, cond, refl, sym, ap, ◌∙◌, subst, arith, Option, Some, None, IfSome, IsSome, slice_get, ◌≤◌, All}
use Rattle.std.proofs.lemmas.{Bool.eq-eqb, Bool.ne_eqb, List.length-drop, List.take_all, Option.slice_get_within}
use Rattle.std.proofs.{lemmas.List.Elements.All-head, lemmas.List.Elements.All-tail, Math.Nat.lt_of_not-le}
use Rattle.jvm_model.specs.declared.instr.Instr.{Instr}
use Rattle.jvm_model.specs.declared.program.{Placed.Placed, Body.Body, Program.Program}
use Rattle.jvm_model.specs.Classes.{Found, found_in, found_of, form_at, next_place, place_after, method_at}
use Rattle.jvm_model.specs.{Entries.Entries, Step.row_here, Step.row_or_none, View.IsRow, View.IsSafe, World.World}
use Rattle.jvm_model.specs.Linked.{Ascends, IsBody, Linked}
use Rattle.vm_tables.specs.Numbers.{instruction, instruction_of, after_or, no_placed}
use Rattle.vm_tables.proofs.Places.{ascending_number, form_bare, form_some, get_some, next_found, place_past}
use Rattle.check_sound.proofs.Arrive.{has_number}
use Rattle.vm_interp.specs.Dispatching.{IsAtForm, IsIn, IsInCode, IsLeft, IsRest, Stands, StaysAt}
use Rattle.vm_interp.specs.declared.flow.{Flow.Flow, Flow.TheVariants.FallThrough, Flow.TheVariants.Jump, Flow.TheVariants.Call, Flow.TheVariants.Other}

chosen : (b c : Bool) (o f : Option Found) → b ≡ c → (elim b as (λ _. Option Found) [ true ↦ o | false ↦ f ]) ≡ cond c o f
chosen true c o f e = subst (λ (x : Bool). o ≡ cond x o f) e refl
chosen false c o f e = subst (λ (x : Bool). f ≡ cond x o f) e refl

-- the first instruction of its place is itself
found_there : (n : ℕ) (code : List Placed) (end i : ℕ) (d : Placed) → Ascends n code → i < length code → found_in code end (get_or code i d).pc ≡ Some (instruction code end i)
found_there n [] end i d a l = let none : ⊥ = omega arith in absurd none
found_there n (x ∷ xs) end zero d a l = chosen (eqb x.pc x.pc) true (Some (record { form = x.form; after = place_after xs end })) (found_in xs end x.pc) (eq-eqb x.pc x.pc refl)
found_there n (x ∷ xs) end (suc i) d a l =
    let later : x.pc + 1 + i ≤ (get_or xs i d).pc = ascending_number (x.pc + 1) xs i d a.1 (omega arith) in
    let apart : eqb x.pc (get_or xs i d).pc ≡ false = ne_eqb x.pc (get_or xs i d).pc (λ e. (let none : ⊥ = omega arith in none)) in
    chosen (eqb x.pc (get_or xs i d).pc) false (Some (record { form = x.form; after = place_after xs end })) (found_in xs end (get_or xs i d).pc) apart
    ∙ found_there (x.pc + 1) xs end i d a.1 (omega arith)

-- the instruction of this number is found at a place of a code
pub record IsNumber (b : Body) (pc i : ℕ) : Type 0 where
  pub found : found_of (Some b) pc ≡ instruction_of (Some b) (Some i)
  pub within : i < length b.code

-- an instruction that stands at the place is the one that is found
number_of_guess : (b : Body) (i pc : ℕ) (x : Placed) → IsBody b → Some x ≡ slice_get b.code i → x.pc ≡ pc → IsNumber b pc i
number_of_guess b i pc x h e q =
    let here : get_or b.code i no_placed ≡ x = get_some b.code i x no_placed (sym e) in
    let there : (get_or b.code i no_placed).pc ≡ pc = ap (λ (y : Placed). y.pc) here ∙ q in
    record {
      found = subst (λ (n : ℕ). found_in b.code b.length n ≡ Some (instruction b.code b.length i)) there (found_there 0 b.code b.length i no_placed h.ascending (slice_get_within b.code i x (sym e)));
      within = slice_get_within b.code i x (sym e);
    }

next_numbered : (p : Program) (m pc i : ℕ) (b : Body) → (method_at p m).body ≡ Some b → IsNumber b pc i → next_place p m pc ≡ place_after (drop (suc i) b.code) b.length
unfolding next_place
next_numbered p m pc i b own h = next_found (found_of (method_at p m).body pc) pc ∙ ap (λ (o : Option Body). after_or pc (found_of o pc)) own ∙ ap (λ (o : Option Found). after_or pc o) h.found

form_numbered : (p : Program) (m pc i : ℕ) (b : Body) → (method_at p m).body ≡ Some b → IsNumber b pc i → form_at p m pc ≡ Some (get_or b.code i no_placed).form
form_numbered p m pc i b own h = form_some p m pc i b (subst (λ (o : Option Body). found_of o pc ≡ instruction_of o (Some i)) (sym own) h.found) own

-- the code of a linked program
pub is_body : (p : Program) (m : ℕ) (b : Body) → Linked p → (method_at p m).body ≡ Some b → IsBody b
is_body p m b h e = subst (λ (o : Option Body). IfSome o (λ x. IsBody x)) e (h.bodies m (has_number p m b e))

-- an instruction that was looked up
pub looked_up : (xs : List Placed) (i : ℕ) (x : Placed) → i < length xs → x ≡ get_or xs i x → Some x ≡ slice_get xs i
looked_up [] i x l e = let none : ⊥ = omega arith in absurd none
looked_up (y ∷ ys) zero x l e = ap (λ (z : Placed). Some z) e
looked_up (y ∷ ys) (suc i) x l e = looked_up ys i x (omega arith) e

-- the place of the first instruction of a list, and that of the next one
place_first : (rest : List Placed) (end : ℕ) (x : Placed) → Some x ≡ slice_get rest 0 → place_after rest end ≡ x.pc
place_first [] end x e = absurd (cc)
place_first (y ∷ ys) end x e = cc

pub after_some : (rest : List Placed) (end : ℕ) (x : Placed) → Some x ≡ slice_get rest 1 → x.pc ≡ place_after (drop 1 rest) end
after_some [] end x e = absurd (cc)
after_some (y ∷ ys) end x e = sym (place_first ys end x e)

pub after_none : (rest : List Placed) (end : ℕ) → None ≡ slice_get rest 1 → end ≡ place_after (drop 1 rest) end
after_none [] end e = refl
after_none (y ∷ []) end e = refl
after_none (y ∷ z ∷ zs) end e = absurd (cc)

-- all behind the first of a list
pub rest_all : (xs : List Placed) → take (length xs - 1) (drop 1 xs) ≡ drop 1 xs
rest_all xs = take_all (length xs - 1) (drop 1 xs) (let l = length-drop 1 xs in omega arith)

-- the instructions of a code from one of them on
first_of : (code : List Placed) (i : ℕ) → slice_get (drop i code) 0 ≡ slice_get code i
first_of code zero = refl
first_of [] (suc i) = refl
first_of (x ∷ xs) (suc i) = first_of xs i

drop_one : (code : List Placed) (i : ℕ) → drop 1 (drop i code) ≡ drop (suc i) code
drop_one code zero = refl
drop_one [] (suc i) = refl
drop_one (x ∷ xs) (suc i) = drop_one xs i

pub rest_some : (b : Body) (rest : List Placed) → IsRest b rest → 0 < length rest
rest_some b rest h = subst (λ (xs : List Placed). 0 < length xs) (sym h.all) (let l = length-drop h.from b.code in let k = h.within in omega arith)

-- a row that left the frame of a method left that of its code
in_code : (p : Program) (b : Body) (m : ℕ) (s : Entries) → (method_at p m).body ≡ Some b → IsIn m s → IsInCode p b s
in_code p b m s e h = record { frame = h.frame; own = subst (λ (n : ℕ). (method_at p n).body ≡ Some b) (sym h.number) e }

pub left_in : (p : Program) (b : Body) (m n : ℕ) (s : Entries) (x : Flow) → (method_at p m).body ≡ Some b → IsLeft x m n s → StaysAt p b x n s
left_in p b m n s FallThrough e h = (in_code p b m s e h.0, h.1)
left_in p b m n s Jump e h = in_code p b m s e h
left_in p b m n s _ e h = tt

-- the instruction of a number stands at its place
pub form_here : (p : Program) (m i : ℕ) (b : Body) (x : Placed) → IsBody b → (method_at p m).body ≡ Some b → Some x ≡ slice_get b.code i → form_at p m x.pc ≡ Some x.form
form_here p m i b x h own e = form_numbered p m x.pc i b own (number_of_guess b i x.pc x h e refl) ∙ ap (λ (y : Placed). Some y.form) (get_some b.code i x no_placed (sym e))

-- a frame that is at the first of these instructions
module _ (p : Program) (b : Body) (rest : List Placed) (s : Entries) (x : Placed) (linked : Linked p) (h : Stands p b rest s) (at : Some x ≡ slice_get rest 0) where
  here : Some x ≡ slice_get b.code h.placed.of.from
  here = at ∙ (ap (λ (xs : List Placed). slice_get xs 0) h.placed.of.all ∙ first_of b.code h.placed.of.from)

  pub stands_pc : s.top.pc ≡ x.pc
  stands_pc = h.placed.place ∙ place_first rest b.length x at

  body : IsBody b
  body = is_body p s.top.number b linked h.code.own

  pub stands_form : form_at p s.top.number s.top.pc ≡ Some x.form
  stands_form = subst (λ (n : ℕ). form_at p s.top.number n ≡ Some x.form) (sym stands_pc) (form_here p s.top.number h.placed.of.from b x body h.code.own here)

  pub stands_next : next_place p s.top.number s.top.pc ≡ place_after (drop 1 rest) b.length
  stands_next = subst (λ (n : ℕ). next_place p s.top.number n ≡ place_after (drop 1 rest) b.length) (sym stands_pc)
      (next_numbered p s.top.number x.pc h.placed.of.from b h.code.own (number_of_guess b h.placed.of.from x.pc x body here refl)
      ∙ ap (λ (xs : List Placed). place_after xs b.length) (sym (ap (λ (xs : List Placed). drop 1 xs) h.placed.of.all ∙ drop_one b.code h.placed.of.from)))

-- no instruction stands behind the last one
none_past : (code : List Placed) (end pc : ℕ) → All (λ x. x.pc < end) code → end ≤ pc → found_in code end pc ≡ None
none_past [] end pc h l = refl
none_past (x ∷ xs) end pc h l =
    let apart : eqb x.pc pc ≡ false = ne_eqb x.pc pc (λ e. (let low : x.pc < end = All-head (λ (y : Placed). y.pc < end) x xs h in let none : ⊥ = omega arith in none)) in
    chosen (eqb x.pc pc) false (Some (record { form = x.form; after = place_after xs end })) (found_in xs end pc) apart ∙ none_past xs end pc (All-tail (λ (y : Placed). y.pc < end) x xs h) l

form_none : (p : Program) (m pc : ℕ) (b : Body) → (method_at p m).body ≡ Some b → found_in b.code b.length pc ≡ None → form_at p m pc ≡ None
unfolding form_at
form_none p m pc b own e =
    subst (λ (o : Option Found). (elim o as (λ _. Option Instr) [ None ↦ None | Some x ↦ Some x.form ]) ≡ None) (sym (ap (λ (o : Option Body). found_of o pc) own ∙ e)) refl

stuck : (p : Program) (s : Entries) (w : World) → form_at p s.top.number s.top.pc ≡ None → IsSafe IsRow (row_here p s) w → ⊥
unfolding row_here
stuck p s w e h = subst (λ (o : Option Instr). IsSafe IsRow (row_or_none p o s) w) e h

-- where an instruction is found, the method has code
pub has_body : (p : Program) (m pc : ℕ) → IsSome (form_at p m pc) → (method_at p m).body ≡ None → ⊥
has_body p m pc h e = let bad : IsSome {T = Instr} None = subst (λ (o : Option Instr). IsSome o) (form_bare p m pc None (ap (λ (o : Option Body). found_of o pc) e ∙ sym (ap (λ (o : Option Body). instruction_of o None) e)) e) h in absurd (cc)

-- so a frame whose row is safe isn't there
some_or : (p : Program) (s : Entries) (w : World) (o : Option Instr) → form_at p s.top.number s.top.pc ≡ o → IsSafe IsRow (row_here p s) w → IsSome o
some_or p s w None e h = absurd (stuck p s w e h)
some_or p s w (Some i) e h = refl

pub has_form : (p : Program) (s : Entries) (w : World) → IsSafe IsRow (row_here p s) w → IsSome (form_at p s.top.number s.top.pc)
has_form p s w h = some_or p s w (form_at p s.top.number s.top.pc) refl h

pub stands_next_to : (p : Program) (b : Body) (rest : List Placed) (s : Entries) → Linked p → IsRest b rest → StaysAt p b FallThrough (place_after (drop 1 rest) b.length) s → IsAtForm p s → Stands p b (drop 1 rest) s
stands_next_to p b rest s linked h at some =
    let one : drop 1 rest ≡ drop (suc h.from) b.code = ap (λ (xs : List Placed). drop 1 xs) h.all ∙ drop_one b.code h.from in
    let within : suc h.from < length b.code = lt_of_not-le (λ l.
    (let end : s.top.pc ≡ b.length = at.1 ∙ (ap (λ (xs : List Placed). place_after xs b.length) one ∙ place_past b.code (suc h.from) b.length l) in
    let none : form_at p s.top.number s.top.pc ≡ None = form_none p s.top.number s.top.pc b at.0.own (none_past b.code b.length s.top.pc (is_body p s.top.number b linked at.0.own).within (omega (arith, end))) in
    let bad : IsSome {T = Instr} None = subst (λ (o : Option Instr). IsSome o) none (some at.0.frame) in absurd (cc))) in
    record { code = at.0; placed = record { of = record { from = suc h.from; within = within; all = one }; place = at.1 } }
