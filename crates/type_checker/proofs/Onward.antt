-- The walk over the instructions of a method.
use Rattle.std.proofs.Common.{◌≡◌, ℕ, List, ◌∷◌, length, ◌<◌, ◌+◌, get_or, drop, Option, Some, None, slice_get, refl, ap, sym, ◌∙◌, subst, add-one}
use Rattle.std.proofs.lemmas.{List.drop_more, Option.slice_get-get_or}
use Rattle.jvm_model.specs.declared.program.{Program.Program, Placed.Placed}
use Rattle.jvm_model.specs.declared.instr.Instr.TheVariants as form
use Rattle.type_frames.specs.declared.{fault.CheckFault.CheckFault, stack_effect.StackEffect.StackEffect}
use Rattle.type_frames.specs.{Frames.Slots, Environment.Environment, Rules.opening, Rules.broken, StackEffect.sides}
use Rattle.type_frames.specs.Typing.{incoming, taken_at, taken_by, passed, passed_on, breach_of, judged, fault_of, breach_at, code_fault, or_later}
use Rattle.type_checker.specs.declared.judge.{Step.TheVariants.Faulty, Step.TheVariants.Onward, Turned.Turned}
use Rattle.type_checker.specs.declared.judge.Turned.TheVariants as way
use Rattle.type_checker.specs.Steps.{number_of, IsJudged, IsTurned, IsStep}

pub at_start : (p : Program) (e : Environment) → Some (opening e) ≡ incoming p e 0
unfolding incoming
at_start p e = refl

-- the instruction at an index, and those from there on
record Here (code : List Placed) (k : ℕ) : Type 0 where
  placed : Placed
  there : slice_get code k ≡ Some placed
  split : drop k code ≡ placed ∷ drop (k + 1) code

here : (code : List Placed) (k : ℕ) → k < length code → Here code k
here code k h = let none : Placed = record { pc = 0; form = form.Nop } in record { placed = get_or code k none; there = slice_get-get_or code k none h; split = drop_more code k none h }

first_here : (p : Program) (name : List ℕ) (j : ℕ) (e : Environment) (k : ℕ) (x : Placed) (rest : List Placed) → code_fault p name j e k (x ∷ rest) ≡ or_later (fault_of name j x.pc (judged p e k x (taken_at e x.pc (incoming p e k)))) (code_fault p name j e (k + 1) rest)
unfolding breach_at
first_here p name j e k x rest = ap (λ n. or_later (fault_of name j x.pc (judged p e k x (taken_at e x.pc (incoming p e k)))) (code_fault p name j e n rest)) (sym (add-one k))

next_in : (p : Program) (e : Environment) (k : ℕ) → incoming p e (k + 1) ≡ passed_on p e (taken_by e (slice_get e.body.code k) (incoming p e k)) (slice_get e.body.code k)
unfolding incoming
next_in p e k = ap (incoming p e) (add-one k)

pub faulty : (p : Program) (name : List ℕ) (j : ℕ) (e : Environment) (k : ℕ) (f : Option Slots) (c : CheckFault) → f ≡ incoming p e k → k < length e.body.code → ((x : Placed) → slice_get e.body.code k ≡ Some x → IsStep p e name j k x (taken_at e x.pc f) (Faulty c)) → code_fault p name j e k (drop k e.body.code) ≡ Some c
faulty p name j e k f c s lt h =
    let i = here e.body.code k lt in
    let x = i.placed in
    let q : fault_of name j x.pc (judged p e k x (taken_at e x.pc (incoming p e k))) ≡ Some c = subst (λ g. fault_of name j x.pc (judged p e k x (taken_at e x.pc g)) ≡ Some c) s (h x i.there) in
    ap (code_fault p name j e k) i.split ∙ first_here p name j e k x (drop (k + 1) e.body.code) ∙ ap (λ y. or_later y (code_fault p name j e (k + 1) (drop (k + 1) e.body.code))) q

pub onward : (p : Program) (name : List ℕ) (j : ℕ) (e : Environment) (k : ℕ) (f g : Option Slots) → f ≡ incoming p e k → k < length e.body.code → ((x : Placed) → slice_get e.body.code k ≡ Some x → IsStep p e name j k x (taken_at e x.pc f) (Onward g)) → (g ≡ incoming p e (k + 1)) × (code_fault p name j e k (drop k e.body.code) ≡ code_fault p name j e (k + 1) (drop (k + 1) e.body.code))
onward p name j e k f g s lt h =
    let i = here e.body.code k lt in
    let x = i.placed in
    let t = h x i.there in
    let q : fault_of name j x.pc (judged p e k x (taken_at e x.pc (incoming p e k))) ≡ None = subst (λ y. fault_of name j x.pc (judged p e k x (taken_at e x.pc y)) ≡ None) s t.0 in
    let r : taken_by e (slice_get e.body.code k) (incoming p e k) ≡ taken_at e x.pc (incoming p e k) = ap (λ o. taken_by e o (incoming p e k)) i.there in (
      t.1 ∙ ap (λ y. passed_on p e (taken_at e x.pc y) (Some x)) s ∙ ap (λ y. passed_on p e y (Some x)) (sym r) ∙ ap (passed_on p e (taken_by e (slice_get e.body.code k) (incoming p e k))) (sym i.there) ∙ sym (next_in p e k),
      ap (code_fault p name j e k) i.split ∙ first_here p name j e k x (drop (k + 1) e.body.code) ∙ ap (λ y. or_later y (code_fault p name j e (k + 1) (drop (k + 1) e.body.code))) q,
    )

pub turned_by : (p : Program) (e : Environment) (k : ℕ) (x : Placed) (f : Slots) (s : StackEffect) → s ≡ sides p e x.pc f x.form → (t : Turned) → IsJudged p e k x f s t → IsTurned p e k x (Some f) t
turned_by p e k x f s q (way.Broken None) h = absurd h
turned_by p e k x f s q (way.Broken (Some r)) h = ap breach_of (subst (λ y. broken p e k x f y ≡ Some (number_of r)) q h)
turned_by p e k x f s q (way.On g) h = (ap breach_of (subst (λ y. broken p e k x f y ≡ None) q h.0), h.1 ∙ ap (passed f) q)
