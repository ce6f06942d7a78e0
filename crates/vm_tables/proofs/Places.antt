-- The numbers of instructions by byte place.
use Rattle.std.proofs.Common.{inl, inr, ◌≡◌, ◌≢◌, ℕ, zero, suc, ◌<◌, ◌≤◌, ◌+◌, ◌-◌, List, [], ◌∷◌, ◌++◌, length, get_or, set, take, drop, cond, eqb, Bool, true, false, Option, Some, None, IsSome, slice_get, refl, sym, ap, ◌∙◌, arith, subst, get_or-set_other, get_or-set_same}
use Rattle.std.proofs.{lemmas.List.Elements.All-get_or, Math.Seq.get_or-append_seam, lemmas.Bool.eqb-true, lemmas.Bool.eqb-false, lemmas.Bool.cases_lt}
use Rattle.std.proofs.lemmas.List.{get_or_default, take_more, length-take-le, get_or-take, get_or_append_left, get_or_past, drop_all, length_push}
use Rattle.jvm_model.specs.declared.{instr.Instr.Instr, program.Placed.Placed, program.Body.Body, program.MethodRec.MethodRec, program.Program.Program}
use Rattle.jvm_model.specs.Classes.{layout, method_at, Found, found_in, found_of, form_at, next_place, place_after}
use Rattle.jvm_model.specs.Linked.{Ascends, IsBody}
use Rattle.vm_tables.specs.Numbers.{AreCells, AreNumbers, code_of, one_later, number_in, number_of, ArePlaces, AreNexts, AllNexts, after_or, next_of, no_placed, instruction, instruction_of, less_one}

-- what stands at a number of a table
abbrev by_number : List Placed → ℕ → ℕ → Option Found
by_number code end zero = None
by_number code end (suc i) = Some (instruction code end i)

by_number_later : (x : Placed) (xs : List Placed) (end n : ℕ) → by_number xs end n ≡ by_number (x ∷ xs) end (one_later n)
by_number_later x xs end zero = refl
by_number_later x xs end (suc n) = refl

found_or_later : (b : Bool) (x : Placed) (xs : List Placed) (end pc : ℕ) → found_in xs end pc ≡ by_number xs end (number_in xs pc)
    → (elim b as (λ _. Option Found) [ true ↦ Some (record { form = x.form; after = place_after xs end }) | false ↦ found_in xs end pc ]) ≡ by_number (x ∷ xs) end (cond b 1 (one_later (number_in xs pc)))
found_or_later true x xs end pc e = refl
found_or_later false x xs end pc e = e ∙ by_number_later x xs end (number_in xs pc)

-- what the definition finds at a place is the instruction of the number there
found_in-number : (code : List Placed) (end pc : ℕ) → found_in code end pc ≡ by_number code end (number_in code pc)
found_in-number [] end pc = refl
found_in-number (x ∷ xs) end pc = found_or_later (eqb x.pc pc) x xs end pc (found_in-number xs end pc)

by_number_is : (b : Body) (n : ℕ) → by_number b.code b.length n ≡ instruction_of (Some b) (less_one n)
by_number_is b zero = refl
by_number_is b (suc i) = refl

pub found_number : (body : Option Body) (numbers : List ℕ) (pc : ℕ) → ArePlaces body numbers → found_of body pc ≡ instruction_of body (less_one (get_or numbers pc 0))
found_number None numbers pc h = refl
found_number (Some b) numbers pc h = rw (h pc) (found_in-number b.code b.length pc ∙ by_number_is b (number_in b.code pc))

-- an instruction's number is at most its place
pub ascending_number : (n : ℕ) (code : List Placed) (i : ℕ) (d : Placed) → Ascends n code → i < length code → n + i ≤ (get_or code i d).pc
ascending_number n [] i d a l = let none : ⊥ = omega arith in absurd none
ascending_number n (x ∷ xs) zero d a l = omega (arith, a.0)
ascending_number n (x ∷ xs) (suc i) d a l = omega (arith, a.0, ascending_number (x.pc + 1) xs i d a.1 (omega arith))

-- the places before an instruction are below its own
pub ascending_below : (n : ℕ) (code : List Placed) (i k : ℕ) (d : Placed) → Ascends n code → k < i → i < length code → (get_or code k d).pc < (get_or code i d).pc
ascending_below n [] i k d a h l = let none : ⊥ = omega arith in absurd none
ascending_below n (x ∷ xs) zero k d a h l = let none : ⊥ = omega arith in absurd none
ascending_below n (x ∷ xs) (suc i) zero d a h l = omega (arith, ascending_number (x.pc + 1) xs i d a.1 (omega arith))
ascending_below n (x ∷ xs) (suc i) (suc k) d a h l = ascending_below (x.pc + 1) xs i k d a.1 (omega arith) (omega arith)

-- an instruction that is put last, behind lower places
number_last : (b c : Bool) (n m : ℕ) → (b ≡ true → c ≡ true → ⊥) → cond b 1 (one_later (cond c (n + 1) m)) ≡ cond c (suc n + 1) (cond b 1 (one_later m))
number_last true true n m h = absurd (h refl refl)
number_last true false n m h = refl
number_last false true n m h = let next : n + 1 ≡ suc n = omega arith in let last : suc n + 1 ≡ suc (suc n) = omega arith in rw (next, last) refl
number_last false false n m h = refl

number_in-push : (xs : List Placed) (x : Placed) (pc : ℕ) → ((k : ℕ) → k < length xs → (get_or xs k x).pc < x.pc) → number_in (xs ++ x ∷ []) pc ≡ cond (eqb x.pc pc) (length xs + 1) (number_in xs pc)
number_in-push [] x pc h = refl
number_in-push (y ∷ ys) x pc h =
    let first : y.pc < x.pc = h 0 (omega arith) in
    let apart : eqb y.pc pc ≡ true → eqb x.pc pc ≡ true → ⊥ = λ p q. (let none : ⊥ = omega (arith, eqb-true y.pc pc p, eqb-true x.pc pc q) in none) in
    rw (number_in-push ys x pc (λ k l. h (suc k) (omega arith))) (number_last (eqb y.pc pc) (eqb x.pc pc) (length ys) (number_in ys pc) apart)

number_write : (b : Bool) (numbers : List ℕ) (place pc n : ℕ) → (b ≡ true → place ≡ pc) → (b ≡ false → place ≢ pc) → place < length numbers → get_or (set numbers place n) pc 0 ≡ cond b n (get_or numbers pc 0)
number_write true numbers place pc n p q l = rw (← p refl) (get_or-set_same numbers place n 0 l)
number_write false numbers place pc n p q l = get_or-set_other numbers place pc n 0 (λ e. q refl (sym e))

-- what a loop over a code keeps of its table
pub places_more : (n : ℕ) (code : List Placed) (i : ℕ) (x : Placed) (numbers : List ℕ) → Ascends n code → i < length code → x ≡ get_or code i x → x.pc < length numbers
    → ((pc : ℕ) → get_or numbers pc 0 ≡ number_in (take i code) pc) → (pc : ℕ) → get_or (set numbers x.pc (i + 1)) pc 0 ≡ number_in (take (i + 1) code) pc
places_more n code i x numbers a l here inside h pc =
    let upto : length (take i code) ≡ i = length-take-le i code (omega arith) in
    let before : (k : ℕ) → k < length (take i code) → (get_or (take i code) k x).pc < x.pc = λ k m. (let low : k < i = omega arith in let same : get_or (take i code) k x ≡ get_or code k x = get_or-take i code k x low in let below : (get_or code k x).pc < (get_or code i x).pc = ascending_below n code i k x a low l in let goal : (get_or code k x).pc < x.pc = subst (λ (y : Placed). (get_or code k x).pc < y.pc) (sym here) below in subst (λ (y : Placed). y.pc < x.pc) (sym same) goal) in
    let written : get_or (set numbers x.pc (i + 1)) pc 0 ≡ cond (eqb x.pc pc) (i + 1) (get_or numbers pc 0) = number_write (eqb x.pc pc) numbers x.pc pc (i + 1) (eqb-true x.pc pc) (eqb-false x.pc pc) inside in
    let last : take (i + 1) code ≡ take i code ++ x ∷ [] = take_more code i x l ∙ ap (λ (y : Placed). take i code ++ y ∷ []) (sym here) in
    written ∙ (rw (h pc, last, number_in-push (take i code) x pc before, upto) refl)

-- what a body's code says of its instruction i
pub place_within : (b : Body) (i : ℕ) (x : Placed) → IsBody b → i < length b.code → x ≡ get_or b.code i x → (x.pc < b.length) × (i ≤ x.pc) × (b.length < 65536)
place_within b i x w l here =
    let inside : (get_or b.code i x).pc < b.length = All-get_or (λ (y : Placed). y.pc < b.length) b.code i x l w.within in
    let high : 0 + i ≤ (get_or b.code i x).pc = ascending_number 0 b.code i x w.ascending l in
    let place : x.pc ≡ (get_or b.code i x).pc = ap (λ (y : Placed). y.pc) here in
    (omega arith, omega arith, omega (arith, w.short))

pub get_some : {A : Type 0} (xs : List A) (i : ℕ) (v d : A) → slice_get xs i ≡ Some v → get_or xs i d ≡ v
get_some [] i v d q = cc
get_some (x ∷ xs) zero v d q = cc
get_some (x ∷ xs) (suc i) v d q = get_some xs i v d q

pub get_none : {A : Type 0} (xs : List A) (i : ℕ) (d : A) → slice_get xs i ≡ None → get_or xs i d ≡ d
get_none [] i d q = refl
get_none (x ∷ xs) zero d q = cc
get_none (x ∷ xs) (suc i) d q = get_none xs i d q

-- what a table's entry says of the program
pub number_found : (p q : Program) (m pc n : ℕ) (tables : List (List ℕ)) → ((k : ℕ) → ArePlaces (method_at p k).body (get_or tables k [])) → p ≡ q → n ≡ get_or (get_or tables m []) pc 0
    → found_of (method_at q m).body pc ≡ instruction_of (method_at q m).body (less_one n)
number_found p q m pc n tables h e r =
    let here : found_of (method_at p m).body pc ≡ instruction_of (method_at p m).body (less_one n) = rw r (found_number (method_at p m).body (get_or tables m []) pc (h m)) in
    subst (λ (w : Program). found_of (method_at w m).body pc ≡ instruction_of (method_at w m).body (less_one n)) e here

pub less_one_some : (n : ℕ) → 0 < n → less_one n ≡ Some (n - 1)
less_one_some zero h = let none : ⊥ = omega arith in absurd none
less_one_some (suc n) h = let back : suc n - 1 ≡ n = omega arith in rw back refl

later_le : (b : Bool) (n k : ℕ) → n ≤ k → cond b 1 (one_later n) ≤ suc k
later_le true n k h = omega arith
later_le false zero k h = omega arith
later_le false (suc n) k h = omega arith

number_in-le : (code : List Placed) (pc : ℕ) → number_in code pc ≤ length code
number_in-le [] pc = omega arith
number_in-le (x ∷ xs) pc = later_le (eqb x.pc pc) (number_in xs pc) (length xs) (number_in-le xs pc)

number_of-le : (body : Option Body) (pc : ℕ) → number_of body pc ≤ length (code_of body)
number_of-le None pc = omega arith
number_of-le (Some b) pc = number_in-le b.code pc

-- no table's entry passes the number of instructions
pub number_inside : (p q : Program) (m pc n : ℕ) (tables : List (List ℕ)) → ((k : ℕ) → ArePlaces (method_at p k).body (get_or tables k [])) → p ≡ q → n ≡ get_or (get_or tables m []) pc 0
    → n ≤ length (code_of (method_at q m).body)
number_inside p q m pc n tables h e r =
    let here : n ≤ length (code_of (method_at p m).body) = rw (r, h m pc) (number_of-le (method_at p m).body pc) in
    subst (λ (w : Program). n ≤ length (code_of (method_at w m).body)) e here

pub cells_found : (p q : Program) (c : ℕ) (cells : List ℕ) → AreCells p cells → p ≡ q → get_or cells c 0 ≡ length (layout q c)
cells_found p q c cells h e = subst (λ (w : Program). get_or cells c 0 ≡ length (layout w c)) e (h c)

-- ---- the place after an instruction

pub place_past : (code : List Placed) (i end : ℕ) → length code ≤ i → place_after (drop i code) end ≡ end
place_past code i end l = ap (λ xs. place_after xs end) (drop_all i code l)

-- where an entry of a table leads
abbrev next_by : Body → ℕ → ℕ → ℕ
next_by b pc zero = pc
next_by b pc (suc i) = place_after (drop (suc i) b.code) b.length

after_by : (b : Body) (pc n : ℕ) → after_or pc (instruction_of (Some b) (less_one n)) ≡ next_by b pc n
after_by b pc zero = refl
after_by b pc (suc i) = refl

next_number : (b : Body) (numbers : List ℕ) (pc : ℕ) → ArePlaces (Some b) numbers → next_of (Some b) pc ≡ next_by b pc (get_or numbers pc 0)
next_number b numbers pc h = ap (after_or pc) (found_number (Some b) numbers pc h) ∙ after_by b pc (get_or numbers pc 0)

pub next_none : (b : Body) (numbers : List ℕ) (pc : ℕ) → ArePlaces (Some b) numbers → get_or numbers pc 0 ≡ 0 → pc ≡ next_of (Some b) pc
next_none b numbers pc h e = sym (next_number b numbers pc h ∙ ap (next_by b pc) e)

next_by_some : (b : Body) (pc n : ℕ) → 0 < n → next_by b pc n ≡ place_after (drop n b.code) b.length
next_by_some b pc zero l = let none : ⊥ = omega arith in absurd none
next_by_some b pc (suc i) l = refl

pub next_some : (b : Body) (numbers : List ℕ) (pc n place : ℕ) → ArePlaces (Some b) numbers → get_or numbers pc 0 ≡ n → 0 < n → place ≡ place_after (drop n b.code) b.length → place ≡ next_of (Some b) pc
next_some b numbers pc n place h e l r = r ∙ (sym (next_by_some b pc n l) ∙ sym (next_number b numbers pc h ∙ ap (next_by b pc) e))

-- a place past the code has itself
pub next_past : (b : Body) (numbers : List ℕ) (pc : ℕ) → ArePlaces (Some b) numbers → length numbers ≤ pc → next_of (Some b) pc ≡ pc
next_past b numbers pc h l = sym (next_none b numbers pc h (get_or_past numbers pc 0 l))

pub nexts_all : (b : Body) (numbers nexts : List ℕ) (n : ℕ) → ArePlaces (Some b) numbers → length numbers ≤ n → length nexts ≡ n → ((pc : ℕ) → pc < n → get_or nexts pc pc ≡ next_of (Some b) pc) → AreNexts (Some b) nexts
nexts_all b numbers nexts n h m e g pc = elim (cases_lt pc n) [
  | inl i ↦ g pc i
  | inr i ↦ get_or_past nexts pc pc (omega arith) ∙ sym (next_past b numbers pc h (omega arith))
]

pub next_found : (o : Option Found) (pc : ℕ) → (elim o as (λ _. ℕ) [ None ↦ pc | Some x ↦ x.after ]) ≡ after_or pc o
next_found None pc = refl
next_found (Some x) pc = refl

-- what a table's entry says of the program
pub next_is : (p q : Program) (m pc n : ℕ) (tables : List (List ℕ)) → AllNexts p tables → p ≡ q → n ≡ get_or (get_or tables m []) pc pc → n ≡ next_place q m pc
unfolding next_place
next_is p q m pc n tables h e r =
    let here : n ≡ after_or pc (found_of (method_at p m).body pc) = r ∙ h m pc in
    subst (λ (w : Program). n ≡ after_or pc (found_of (method_at w m).body pc)) e here ∙ sym (next_found (found_of (method_at q m).body pc) pc)

-- ---- the form at a place

abbrev form_found : Option Found → Option Instr
form_found None = None
form_found (Some x) = Some x.form

form_by : (o : Option Found) → (elim o as (λ _. Option Instr) [ None ↦ None | Some x ↦ Some x.form ]) ≡ form_found o
form_by None = refl
form_by (Some x) = refl

form_numbered : (p : Program) (m pc : ℕ) (n : Option ℕ) → found_of (method_at p m).body pc ≡ instruction_of (method_at p m).body n → form_at p m pc ≡ form_found (instruction_of (method_at p m).body n)
unfolding form_at
form_numbered p m pc n e = form_by (found_of (method_at p m).body pc) ∙ ap form_found e

no_number : (o : Option Body) → form_found (instruction_of o None) ≡ None
no_number None = refl
no_number (Some b) = refl

-- no number, or no code
pub form_none : (p : Program) (m pc : ℕ) → found_of (method_at p m).body pc ≡ instruction_of (method_at p m).body None → form_at p m pc ≡ None
form_none p m pc e = form_numbered p m pc None e ∙ no_number (method_at p m).body

pub form_bare : (p : Program) (m pc : ℕ) (n : Option ℕ) → found_of (method_at p m).body pc ≡ instruction_of (method_at p m).body n → (method_at p m).body ≡ None → form_at p m pc ≡ None
form_bare p m pc n e h = form_numbered p m pc n e ∙ ap (λ o. form_found (instruction_of o n)) h

pub form_some : (p : Program) (m pc i : ℕ) (b : Body) → found_of (method_at p m).body pc ≡ instruction_of (method_at p m).body (Some i) → (method_at p m).body ≡ Some b → form_at p m pc ≡ Some (get_or b.code i no_placed).form
form_some p m pc i b e h = form_numbered p m pc (Some i) e ∙ ap (λ o. form_found (instruction_of o (Some i))) h

pub form_is : (p q : Program) (m pc i : ℕ) (r : MethodRec) (b : Body) (x : Placed) → p ≡ q → found_of (method_at q m).body pc ≡ instruction_of (method_at q m).body (Some i) → r ≡ method_at p m → Some b ≡ r.body → Some x ≡ slice_get b.code i → Some x.form ≡ form_at q m pc
form_is p q m pc i r b x e found h s g =
    let coded : (method_at q m).body ≡ Some b = ap (λ (w : Program). (method_at w m).body) (sym e) ∙ ap (λ (y : MethodRec). y.body) (sym h) ∙ sym s in
    let here : get_or b.code i no_placed ≡ x = get_some b.code i x no_placed (sym g) in
    sym (form_some q m pc i b found coded ∙ ap (λ (y : Placed). Some y.form) here)

pub form_isnt : (p : Program) (m pc : ℕ) (o : Option Instr) → found_of (method_at p m).body pc ≡ instruction_of (method_at p m).body None → o ≡ None → o ≡ form_at p m pc
form_isnt p m pc o found n = n ∙ sym (form_none p m pc found)

-- ---- one method more

pub tables_more : (P : ℕ → List ℕ → Type 0) (old new : List (List ℕ)) (x : List ℕ) (i : ℕ) → new ≡ old ++ x ∷ [] → length old ≡ i → ((m : ℕ) → m < i → P m (get_or old m [])) → P i x → (m : ℕ) → m < i + 1 → P m (get_or new m [])
tables_more P old new x i e l h q m g =
    subst (λ (xs : List (List ℕ)). P m (get_or xs m [])) (sym e) (elim (cases_lt m i) [
      | inl k ↦ subst (λ (ys : List ℕ). P m ys) (sym (get_or_append_left old (x ∷ []) [] m (omega arith))) (h m k)
      | inr k ↦
          let last : get_or (old ++ x ∷ []) i [] ≡ x = subst (λ n. get_or (old ++ x ∷ []) n [] ≡ x) l (get_or-append_seam old x [] []) in
          let same : m ≡ i = omega arith in
          subst (λ n. P n (get_or (old ++ x ∷ []) n [])) (sym same) (subst (λ (ys : List ℕ). P i ys) (sym last) q)
    ])

pub length_more : (old new : List (List ℕ)) (x : List ℕ) (i : ℕ) → new ≡ old ++ x ∷ [] → length old ≡ i → length new ≡ i + 1
length_more old new x i e l = ap (length {A = List ℕ}) e ∙ (length_push old x ∙ ap (λ n. n + 1) l)

-- ---- the number of an instruction that is found

later_there : (x : Placed) (xs : List Placed) (pc i n : ℕ) → number_in xs pc ≡ n → ((j : ℕ) → number_in xs pc ≡ suc j → (get_or xs j no_placed).pc ≡ pc) → one_later n ≡ suc i → (get_or (x ∷ xs) i no_placed).pc ≡ pc
later_there x xs pc i zero e h g = absurd (cc)
later_there x xs pc i (suc k) e h g = let z : i ≡ suc k = omega arith in rw z (h k e)

there_or_later : (b : Bool) (x : Placed) (xs : List Placed) (pc i : ℕ) → eqb x.pc pc ≡ b → ((j : ℕ) → number_in xs pc ≡ suc j → (get_or xs j no_placed).pc ≡ pc) → cond b 1 (one_later (number_in xs pc)) ≡ suc i → (get_or (x ∷ xs) i no_placed).pc ≡ pc
there_or_later true x xs pc i e h g = let z : i ≡ 0 = omega arith in rw z (eqb-true x.pc pc e)
there_or_later false x xs pc i e h g = later_there x xs pc i (number_in xs pc) refl h g

number_there : (code : List Placed) (pc i : ℕ) → number_in code pc ≡ suc i → (get_or code i no_placed).pc ≡ pc
number_there [] pc i e = absurd (cc)
number_there (x ∷ xs) pc i e = there_or_later (eqb x.pc pc) x xs pc i refl (number_there xs pc) e

number_of-there : (body : Option Body) (pc n : ℕ) → number_of body pc ≡ n → 0 < n → (get_or (code_of body) (n - 1) no_placed).pc ≡ pc
number_of-there body pc zero e l = let none : ⊥ = omega arith in absurd none
number_of-there None pc (suc i) e l = absurd (cc)
number_of-there (Some b) pc (suc i) e l = let back : suc i - 1 ≡ i = omega arith in rw back (number_there b.code pc i e)

form_zero : (p : Program) (m pc : ℕ) (numbers : List ℕ) → ArePlaces (method_at p m).body numbers → get_or numbers pc 0 ≡ 0 → IsSome (form_at p m pc) → ⊥
form_zero p m pc numbers h e g =
    let none : form_at p m pc ≡ None = form_none p m pc (found_number (method_at p m).body numbers pc h ∙ ap (λ n. instruction_of (method_at p m).body (less_one n)) e) in
    let bad : IsSome {T = Instr} None = subst (λ (o : Option Instr). IsSome o) none g in absurd (cc)

some_past : (numbers : List ℕ) (pc : ℕ) → 0 < get_or numbers pc 0 → pc < length numbers
some_past numbers pc h = elim (cases_lt pc (length numbers)) [
  | inl l ↦ l
  | inr l ↦ (let z : get_or numbers pc 0 ≡ 0 = get_or_past numbers pc 0 l in let none : ⊥ = omega arith in absurd none)
]

table_past : (tables : List (List ℕ)) (m pc : ℕ) → 0 < get_or (get_or tables m []) pc 0 → m < length tables
table_past tables m pc h = elim (cases_lt m (length tables)) [
  | inl l ↦ l
  | inr l ↦ (let z : get_or (get_or tables m []) pc 0 ≡ 0 = ap (λ (ns : List ℕ). get_or ns pc 0) (get_or_past tables m [] l) in let none : ⊥ = omega arith in absurd none)
]

-- a table that was looked up
pub table_read : (tables read : List (List ℕ)) (m : ℕ) (x own : List ℕ) → m < length tables → read ≡ tables → x ≡ get_or read m x → own ≡ x → get_or tables m [] ≡ own
table_read tables read m x own l e f g = get_or_default tables m [] x l ∙ (ap (λ (ts : List (List ℕ)). get_or ts m x) (sym e) ∙ (sym f ∙ sym g))

module _ (p q : Program) (m pc : ℕ) (tables : List (List ℕ)) (h : AreNumbers p tables) (same : p ≡ q) (some : IsSome (form_at q m pc)) where
  abbrev pub entry : ℕ
  entry = get_or (get_or tables m []) pc 0

  pub index_has : 0 < entry
  index_has = elim (cases_lt 0 entry) [
    | inl l ↦ l
    | inr l ↦ absurd (form_zero p m pc (get_or tables m []) (h m) (let z : entry ≡ 0 = omega arith in z) (subst (λ (w : Program). IsSome (form_at w m pc)) (sym same) some))
  ]

  pub index_table : m < length tables
  index_table = table_past tables m pc index_has

  pub index_place : pc < length (get_or tables m [])
  index_place = some_past (get_or tables m []) pc index_has

  pub index_within : entry - 1 < length (code_of (method_at q m).body)
  index_within = let l = number_inside p q m pc entry tables h same refl in let s = index_has in omega arith

  pub index_there : (get_or (code_of (method_at q m).body) (entry - 1) no_placed).pc ≡ pc
  index_there = subst (λ (w : Program). (get_or (code_of (method_at w m).body) (entry - 1) no_placed).pc ≡ pc) same (number_of-there (method_at p m).body pc entry (sym (h m pc)) index_has)
