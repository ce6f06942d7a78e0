-- How a frame's locals are written, one argument after another.
use Rattle.std.proofs.Common.{◌≡◌, ℕ, ◌<◌, ◌≤◌, ◌-◌, ◌+◌, ◌^◌, max, List, [], ◌∷◌, ◌++◌, length, get_or, set, take, drop, replicate, cond, refl, sym, ap, ◌∙◌, arith, append_assoc}
use Rattle.std.proofs.lemmas.List.{take_more_set, take_more, take-take, drop-append-le, replicate_more, take_at, take-append-le, get_or-take, length-take-le, length-append}
use Rattle.jvm_model.specs.{declared.values.Value.Value, Entries.slots_of, Entries.filled, RowsMoves.is_long}
use Rattle.jvm_model.specs.declared.values.Value.TheVariants.{Int, Long, Null, Lit, Obj}
use Rattle.vm_frames.specs.Extents.{HasFrame}

pub slots_of-append : (vs ws : List Value) → slots_of (vs ++ ws) ≡ slots_of vs ++ slots_of ws
slots_of-append [] ws = refl
slots_of-append (Int n ∷ vs) ws = rw (slots_of-append vs ws) refl
slots_of-append (Long n ∷ vs) ws = rw (slots_of-append vs ws) refl
slots_of-append (Null ∷ vs) ws = rw (slots_of-append vs ws) refl
slots_of-append (Lit n ∷ vs) ws = rw (slots_of-append vs ws) refl
slots_of-append (Obj o ∷ vs) ws = rw (slots_of-append vs ws) refl

-- one slot is written
pub put_one : (xs : List Value) (to : ℕ) (v : Value) → to < length xs → take (to + 1) (set xs to v) ≡ take to xs ++ v ∷ []
put_one xs to v h = take_more_set xs to v h

-- two are written
pub put_two_slots : (xs : List Value) (to : ℕ) (v w : Value) → to + 1 < length xs → take (to + 2) (set (set xs to v) (to + 1) w) ≡ take to xs ++ v ∷ w ∷ []
put_two_slots xs to v w h =
    let there : to + 2 ≡ to + 1 + 1 = omega arith in
    let long : to + 1 < length (set xs to v) = rw (Rattle.std.proofs.Common.length-set xs to v) h in
    rw (there, take_more_set (set xs to v) (to + 1) w long, take_more_set xs to v (omega arith), append_assoc) refl

-- a long takes two slots, and any other value one
pub slots_of_one : (v : Value) → slots_of (v ∷ []) ≡ cond (is_long v) (v ∷ Null ∷ []) (v ∷ [])
slots_of_one (Int n) = refl
slots_of_one (Long n) = refl
slots_of_one Null = refl
slots_of_one (Lit n) = refl
slots_of_one (Obj o) = refl

-- the arguments up to a place, and the next one
pub argument_more : (xs ys : List Value) (from base place : ℕ) (v : Value) → from ≤ place → place < base → base ≤ length xs → take base ys ≡ take base xs → v ≡ get_or ys place Null
    → drop from (take (place + 1) xs) ≡ drop from (take place xs) ++ v ∷ []
argument_more xs ys from base place v low high within same read =
    let here : get_or ys place Null ≡ get_or xs place Null = sym (get_or-take base ys place Null high) ∙ (ap (λ (zs : List Value). get_or zs place Null) same ∙ get_or-take base xs place Null high) in
    let cut : from ≤ length (take place xs) = rw (length-take-le place xs (omega arith)) low in
    rw (take_more xs place Null (omega arith), drop-append-le from (take place xs) (get_or xs place Null ∷ []) cut) (ap (λ (x : Value). drop from (take place xs) ++ x ∷ []) (sym (read ∙ here)))

-- what a loop over the arguments keeps
pub copy_more : (old xs ys : List Value) (from base place to end : ℕ) (v : Value) → from ≤ place → place < base → base ≤ length old → base ≤ to → to ≤ length xs
    → take to xs ≡ take base old ++ slots_of (drop from (take place old)) → v ≡ get_or xs place Null → take end ys ≡ take to xs ++ slots_of (v ∷ [])
    → take end ys ≡ take base old ++ slots_of (drop from (take (place + 1) old))
copy_more old xs ys from base place to end v low high within start room written read put =
    let same : take base xs ≡ take base old = sym (take-take base to xs start) ∙ (ap (λ (zs : List Value). take base zs) written ∙ take_at (take base old) (slots_of (drop from (take place old))) base (length-take-le base old within)) in
    put ∙ (rw (written, argument_more old xs from base place v low high within same read, slots_of-append, append_assoc) refl)

-- one more slot is filled
pub clear_more : (old xs : List Value) (from place : ℕ) → from ≤ place → place < length xs → take place xs ≡ take from old ++ replicate (place - from) Null
    → take (place + 1) (set xs place Null) ≡ take from old ++ replicate (place + 1 - from) Null
clear_more old xs from place low high e =
    let count : place + 1 - from ≡ place - from + 1 = omega arith in
    rw (take_more_set xs place Null high, e, append_assoc, count, replicate_more) refl

-- the arguments, and null up to the number of locals
pub frame_made : (old mid new : List Value) (base max_locals : ℕ) (args : List Value) (to first : ℕ) → base ≤ length old → to ≤ length mid → take to mid ≡ take base old ++ slots_of args
    → first ≡ max to (base + max_locals) → take first new ≡ take to mid ++ replicate (first - to) Null → first + 65535 ≤ length new → length old ≤ length new → length new < 2 ^ 63
    → HasFrame old new base max_locals args first
frame_made old mid new base max_locals args to first within there written e filled room long few =
    let count : to ≡ base + length (slots_of args) = sym (length-take-le to mid there) ∙ (ap length written ∙ (length-append (take base old) (slots_of args) ∙ ap (λ (n : ℕ). n + length (slots_of args)) (length-take-le base old within))) in
    let rest : first - to ≡ max_locals - length (slots_of args) = omega arith in
    record {
      locals = filled ∙ rw (written, rest, append_assoc) refl;
      start = omega arith;
      room = room;
      slots = long;
      few = few;
    }

-- the same of the slots before they grew
pub frame_grown : (old more new : List Value) (base max_locals : ℕ) (args : List Value) (first : ℕ) → base ≤ length old → HasFrame (old ++ more) new base max_locals args first → HasFrame old new base max_locals args first
frame_grown old more new base max_locals args first within h =
    record {
      locals = h.locals ∙ rw (take-append-le base old more within) refl;
      start = h.start;
      room = h.room;
      slots = omega (arith, h.slots, length-append old more);
      few = h.few;
    }
