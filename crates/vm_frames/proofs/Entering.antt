-- Entries that are pushed and popped.
use Rattle.std.proofs.Common.{◌≡◌, ℕ, zero, suc, ◌<◌, ◌≤◌, ◌-◌, ◌+◌, ◌^◌, List, [], ◌∷◌, ◌++◌, length, get_or, set, take, drop, map, reverse, refl, sym, ap, ◌∙◌, arith, length-append, false, subst}
use Rattle.std.proofs.lemmas.List.{reverse-append, take-take, take_at, drop_at, drop_more, take_more, drop-append-le, append-nil, length-take-le, nil_from_length, length-map, length-reverse, drop-take, drop_all}
use Rattle.std.proofs.lemmas.Bool.Decides.{nat_tests}
use Rattle.jvm_model.specs.declared.values.{Value.Value, Value.TheVariants.Null}
use Rattle.jvm_model.specs.declared.state.{EntryKind.EntryKind, EntryKind.TheVariants.Absent, EntryKind.TheVariants.InMethod, EntryKind.TheVariants.InClass}
use Rattle.jvm_model.specs.Entries.{Entry, Entries, entries_of, with_stack, with_entry, popped_entry, all_entries, is_full, filled, slots_of}
use Rattle.vm_frames.specs.{declared.extent.Extent.Extent, Stack.HasRoom, Stack.frame_with, Stack.called_with}
use Rattle.vm_frames.specs.Extents.{downwards, upwards, entry_of, entries_at, saved_by, no_extent, IsTaken, IsWithin, AreStacked, IsStanding, HasFrame}
use Rattle.vm_frames.proofs.Lower.{entry_same, below_same, take_lower}
use Rattle.vm_frames.proofs.Tops.{downwards_none, length_downwards, top_is, entries-push, standing-move, standing-raised}

abbrev pub frame_at : ℕ → ℕ → ℕ → Extent
frame_at m base first = record { kind = InMethod; number = m; pc = 0; base = base; first = first; top = first }

abbrev pub init_at : ℕ → ℕ → Extent
init_at c base = record { kind = InClass false; number = c; pc = 0; base = base; first = base; top = base }

-- extents stay stacked where there are more slots and more of them below the place
pub stacked-grow : (n n' b b' : ℕ) (es : List Extent) → n ≤ n' → b ≤ b' → AreStacked n b es → AreStacked n' b' es
stacked-grow n n' b b' [] h k w = tt
stacked-grow n n' b b' (e ∷ es) h k w = (record { locals = w.0.locals; operands = w.0.operands; limited = w.0.limited; room = omega (arith, w.0); under = omega (arith, w.0) }, stacked-grow n n' e.base e.base es h (omega arith) w.1)

-- a pop

pub taken_some : (e : Extent) (saved rest : List Extent) → saved ≡ rest ++ e ∷ [] → IsTaken saved rest e
taken_some e [] rest q = let none : ⊥ = omega (arith, ap length q, length-append rest (e ∷ [])) in absurd none
taken_some e (f ∷ fs) rest q = q

pub taken_none : (saved rest : List Extent) → length saved ≡ 0 → length rest ≡ 0 → IsTaken saved rest no_extent
taken_none [] rest h k = (nil_from_length rest k, refl)
taken_none (f ∷ fs) rest h k = let none : ⊥ = omega arith in absurd none

turned : (e : Extent) (saved rest : List Extent) → saved ≡ rest ++ e ∷ [] → reverse saved ≡ e ∷ reverse rest
turned e saved rest q = ap reverse q ∙ reverse-append rest (e ∷ [])

pub entries-popped : (xs : List Value) (e c : Extent) (saved rest : List Extent) → IsTaken saved rest e → entries_at xs e rest ≡ popped_entry (entries_at xs c saved)
entries-popped xs e c [] rest q = rw (q.0, q.1) refl
entries-popped xs e c (f ∷ fs) rest q = ap (λ (es : List Extent). entries_of (map (entry_of xs) es)) (sym (turned e (f ∷ fs) rest q))

-- the extent that is taken stands below the one above it
pub taken-under : (n : ℕ) (e c : Extent) (saved rest : List Extent) → IsTaken saved rest e → IsStanding n c saved → e.top ≤ c.base
taken-under n e c [] rest q w = rw q.1 (omega arith)
taken-under n e c (f ∷ fs) rest q w =
    let below : AreStacked n c.base (e ∷ reverse rest) = rw (turned e (f ∷ fs) rest q) at w.below in
    below.0.under

pub standing-popped : (n : ℕ) (e c : Extent) (saved rest : List Extent) → IsTaken saved rest e → IsStanding n c saved → IsStanding n e rest
standing-popped n e c [] rest q w =
    rw (q.0, q.1) (record {
      here = record { locals = omega arith; operands = omega arith; limited = omega arith; room = omega arith; under = omega arith };
      below = tt;
      depth = omega arith;
      few = w.few;
    })
standing-popped n e c (f ∷ fs) rest q w =
    let below : AreStacked n c.base (e ∷ reverse rest) = rw (turned e (f ∷ fs) rest q) at w.below in
    record {
      here = record { locals = below.0.locals; operands = below.0.operands; limited = below.0.limited; room = below.0.room; under = omega (arith, below.0, w.here) };
      below = below.1;
      depth = omega (arith, w.depth, ap length q, length-append rest (e ∷ []));
      few = w.few;
    }

pub ruleset popping = (entries-popped, standing-popped)

-- the top operand of the entry that is popped goes to the one below
pub entries-handed : (xs : List Value) (e c : Extent) (saved rest : List Extent) (s : Entries) → IsTaken saved rest e → IsStanding (length xs) c saved → entries_at xs c saved ≡ s → 0 < length s.top.stack
    → entries_at (set xs e.top (get_or xs (c.top - 1) Null)) (record e { top = e.top + 1 }) rest ≡ with_stack (popped_entry s) (get_or s.top.stack 0 Null ∷ (popped_entry s).top.stack)
entries-handed xs e c saved rest s q w r some =
    let operand : 0 < length (downwards xs c.top (c.top - c.first)) = subst (λ (t : Entries). 0 < length t.top.stack) (sym r) some in
    let count : length (downwards xs c.top (c.top - c.first)) ≡ c.top - c.first = length_downwards xs c.top (c.top - c.first) (omega arith) in
    let top : get_or (downwards xs c.top (c.top - c.first)) 0 Null ≡ get_or xs (c.top - 1) Null = top_is xs c.top (c.top - c.first) (omega arith) (omega arith) in
    let within : e.top < length xs = omega (arith, w.here, taken-under (length xs) e c saved rest q w) in
    let pushed : entries_at (set xs e.top (get_or xs (c.top - 1) Null)) (record e { top = e.top + 1 }) rest ≡ with_stack (entries_at xs e rest) (get_or xs (c.top - 1) Null ∷ (entries_at xs e rest).top.stack) = entries-push xs e rest (length xs) (get_or xs (c.top - 1) Null) (standing-popped (length xs) e c saved rest q w) within in
    let old : Entries = entries_at xs c saved in
    pushed
    ∙ (ap (λ (t : Entries). with_stack t (get_or xs (c.top - 1) Null ∷ t.top.stack)) (entries-popped xs e c saved rest q)
    ∙ (ap (λ (v : Value). with_stack (popped_entry old) (v ∷ (popped_entry old).top.stack)) (sym top)
    ∙ ap (λ (t : Entries). with_stack (popped_entry t) (get_or t.top.stack 0 Null ∷ (popped_entry t).top.stack)) r))

pub standing-handed : (xs : List Value) (i : ℕ) (v : Value) (e c : Extent) (saved rest : List Extent) (s : Entries) → IsTaken saved rest e → IsStanding (length xs) c saved → entries_at xs c saved ≡ s → HasRoom 1 (popped_entry s) → IsStanding (length (set xs i v)) (record e { top = e.top + 1 }) rest
standing-handed xs i v e c saved rest s q w r room =
    standing-raised xs i v e rest (popped_entry s) (standing-popped (length xs) e c saved rest q w) (entries-popped xs e c saved rest q ∙ ap popped_entry r) room

-- the entries that stand once the top one is saved
saved_all_by : (xs : List Value) (k : EntryKind) (e : Extent) (saved : List Extent) → map (entry_of xs) (reverse (saved ++ saved_by k e)) ≡ elim k [ Absent ↦ map (entry_of xs) (reverse saved) | InMethod ↦ entry_of xs e ∷ map (entry_of xs) (reverse saved) | InClass b ↦ entry_of xs e ∷ map (entry_of xs) (reverse saved) ]
saved_all_by xs Absent e saved = rw (append-nil saved) refl
saved_all_by xs InMethod e saved = rw (reverse-append saved (e ∷ [])) refl
saved_all_by xs (InClass b) e saved = rw (reverse-append saved (e ∷ [])) refl

pub saved_all : (xs : List Value) (e : Extent) (saved : List Extent) → map (entry_of xs) (reverse (saved ++ saved_by e.kind e)) ≡ all_entries (entries_at xs e saved)
saved_all xs e saved = saved_all_by xs e.kind e saved

-- entries whose slots below the top are the same
pub entries-same : (xs ys : List Value) (n b : ℕ) (e : Extent) (saved : List Extent) → take b xs ≡ take b ys → IsStanding n e saved → e.top ≤ b → entries_at xs e saved ≡ entries_at ys e saved
entries-same xs ys n b e saved q w h =
    let here : IsWithin n b e = record { locals = w.here.locals; operands = w.here.operands; limited = w.here.limited; room = w.here.room; under = h } in
    rw (entry_same xs ys n b e q here, below_same xs ys n e.base (reverse saved) (take_lower xs ys b e.base q (omega (arith, w.here))) w.below) refl

-- what a frame's writes leave below it
pub frame_below : (xs ys : List Value) (base max_locals : ℕ) (args : List Value) (first : ℕ) → base ≤ length xs → HasFrame xs ys base max_locals args first → take base xs ≡ take base ys
frame_below xs ys base max_locals args first within h =
    sym (take_at (take base xs) (filled max_locals (slots_of args)) base (length-take-le base xs within)) ∙ (ap (λ (zs : List Value). take base zs) (sym h.locals) ∙ take-take base first ys h.start)

pub standing-grown : (n n' : ℕ) (e : Extent) (saved : List Extent) → n ≤ n' → n' < 2 ^ 63 → IsStanding n e saved → IsStanding n' e saved
standing-grown n n' e saved h few w = record {
  here = record { locals = w.here.locals; operands = w.here.operands; limited = w.here.limited; room = omega (arith, w.here); under = omega (arith, w.here) };
  below = stacked-grow n n' e.base e.base (reverse saved) h (omega arith) w.below;
  depth = w.depth;
  few = few;
}

stacked-saved : (n b : ℕ) (k : EntryKind) (e : Extent) (saved : List Extent) → IsWithin n b e → AreStacked n e.base (reverse saved) → AreStacked n b (reverse (saved ++ saved_by k e))
stacked-saved n b Absent e saved w a = rw (append-nil saved) (stacked-grow n n e.base b (reverse saved) (omega arith) (omega (arith, w)) a)
stacked-saved n b InMethod e saved w a = rw (reverse-append saved (e ∷ [])) (w, a)
stacked-saved n b (InClass c) e saved w a = rw (reverse-append saved (e ∷ [])) (w, a)

length-saved_by : (k : EntryKind) (e f : Extent) → length (saved_by k e) ≡ length (saved_by k f)
length-saved_by Absent e f = refl
length-saved_by InMethod e f = refl
length-saved_by (InClass b) e f = refl

-- fewer extents are saved than may stand, unless as many stand
room_to_save : (xs : List Value) (e f : Extent) (saved : List Extent) → is_full (entries_at xs e saved) ≡ false → length (saved ++ saved_by e.kind f) < 1024
room_to_save xs e f saved h =
    let stand : length (all_entries (entries_at xs e saved)) ≡ length (saved ++ saved_by e.kind e) = ap length (sym (saved_all xs e saved)) ∙ (length-map (reverse (saved ++ saved_by e.kind e)) (entry_of xs) ∙ length-reverse (saved ++ saved_by e.kind e)) in
    let few : length (all_entries (entries_at xs e saved)) < 1024 = grind (arith, nat_tests) in
    omega (arith, few, stand, length-append saved (saved_by e.kind e), length-append saved (saved_by e.kind f), length-saved_by e.kind e f)

-- an extent stands above one whose operands were cut to t
pub standing-opened : (xs : List Value) (n t : ℕ) (e f : Extent) (saved : List Extent) → IsStanding (length xs) e saved → is_full (entries_at xs e saved) ≡ false → length xs ≤ n → n < 2 ^ 63 → e.first ≤ t → t ≤ e.top → t ≤ f.base → IsWithin n n f
    → IsStanding n f (saved ++ saved_by e.kind (record e { top = t }))
standing-opened xs n t e f saved w full grown few low high over there =
    let here : IsWithin n f.base (record e { top = t }) = record { locals = w.here.locals; operands = low; limited = omega (arith, w.here); room = omega (arith, w.here); under = over } in
    record {
      here = there;
      below = stacked-saved n f.base e.kind (record e { top = t }) saved here (stacked-grow (length xs) n e.base e.base (reverse saved) grown (omega arith) w.below);
      depth = room_to_save xs e (record e { top = t }) saved full;
      few = few;
    }

pub entries-opened : (xs ys : List Value) (t : ℕ) (e f : Extent) (saved : List Extent) → IsStanding (length xs) e saved → e.first ≤ t → t ≤ e.top → take e.top xs ≡ take e.top ys
    → entries_at ys f (saved ++ saved_by e.kind (record e { top = t })) ≡ with_entry (entry_of ys f) (entries_at xs (record e { top = t }) saved)
entries-opened xs ys t e f saved w low high same =
    let cut : IsStanding (length xs) (record e { top = t }) saved = standing-move (length xs) t e saved w low (omega (arith, w.here)) in
    let all : map (entry_of ys) (reverse (saved ++ saved_by e.kind (record e { top = t }))) ≡ all_entries (entries_at xs (record e { top = t }) saved) =
    saved_all ys (record e { top = t }) saved ∙ ap all_entries (sym (entries-same xs ys (length xs) e.top (record e { top = t }) saved same cut high)) in
    rw all refl

upwards_taken : (xs : List Value) (b n : ℕ) → b + n ≤ length xs → upwards xs b n ≡ take n (drop b xs)
upwards_taken xs b zero h = refl
upwards_taken xs b (suc n) h =
    let next : b + 1 ≡ suc b = omega arith in
    rw (drop_more xs b Null (omega arith), next, upwards_taken xs (suc b) n (omega arith)) refl

-- the entry of a frame whose locals are written
pub entry_of-frame : (xs ys : List Value) (m base max_locals : ℕ) (args : List Value) (first : ℕ) → base ≤ length xs → HasFrame xs ys base max_locals args first → entry_of ys (frame_at m base first) ≡ frame_with max_locals m args
entry_of-frame xs ys m base max_locals args first within h =
    let whole : base + (first - base) ≡ first = omega (arith, h.start) in
    let cut : upwards ys base (first - base) ≡ drop base (take (base + (first - base)) ys) = upwards_taken ys base (first - base) (omega (arith, h.start, h.room)) ∙ sym (drop-take base (first - base) ys) in
    let locals : upwards ys base (first - base) ≡ filled max_locals (slots_of args) =
    cut ∙ (rw (whole, h.locals) (drop_at (take base xs) (filled max_locals (slots_of args)) base (length-take-le base xs within))) in
    rw (downwards_none ys first, locals) refl

downwards_drop : (xs : List Value) (t m n : ℕ) → n ≤ m → m ≤ t → drop n (downwards xs t m) ≡ downwards xs (t - n) (m - n)
downwards_drop xs t m zero h k = let whole : t - 0 ≡ t = omega arith in let all : m - 0 ≡ m = omega arith in rw (whole, all) refl
downwards_drop xs t zero (suc n) h k = let none : ⊥ = omega arith in absurd none
downwards_drop xs zero (suc m) (suc n) h k = let none : ⊥ = omega arith in absurd none
downwards_drop xs (suc t) (suc m) (suc n) h k =
    let less : suc t - suc n ≡ t - n = omega arith in let fewer : suc m - suc n ≡ m - n = omega arith in
    rw (less, fewer) (downwards_drop xs t m n (omega arith) (omega arith))

-- the n values below the place t, the lowest first
downwards_take : (xs : List Value) (t m n : ℕ) → n ≤ m → m ≤ t → t ≤ length xs → reverse (take n (downwards xs t m)) ≡ drop (t - n) (take t xs)
downwards_take xs t m zero h k l = let whole : t - 0 ≡ t = omega arith in sym (rw whole (drop_all t (take t xs) (rw (length-take-le t xs l) (omega arith))))
downwards_take xs t zero (suc n) h k l = let none : ⊥ = omega arith in absurd none
downwards_take xs zero (suc m) (suc n) h k l = let none : ⊥ = omega arith in absurd none
downwards_take xs (suc t) (suc m) (suc n) h k l =
    let less : suc t - suc n ≡ t - n = omega arith in
    let next : t + 1 ≡ suc t = omega arith in
    let more : take (suc t) xs ≡ take t xs ++ get_or xs t Null ∷ [] = rw next at (take_more xs t Null (omega arith)) in
    let cut : t - n ≤ length (take t xs) = rw (length-take-le t xs (omega arith)) (omega arith) in
    let turned : reverse (get_or xs t Null ∷ take n (downwards xs t m)) ≡ reverse (take n (downwards xs t m)) ++ get_or xs t Null ∷ [] = reverse-append (get_or xs t Null ∷ []) (take n (downwards xs t m)) in
    turned ∙ (rw (downwards_take xs t m n (omega arith) (omega arith) (omega arith), less, more, drop-append-le (t - n) (take t xs) (get_or xs t Null ∷ []) cut) refl)

-- n operands are taken
pub entries-lowered : (xs : List Value) (n : ℕ) (e : Extent) (saved : List Extent) → IsStanding (length xs) e saved → n ≤ e.top - e.first → entries_at xs (record e { top = e.top - n }) saved ≡ with_stack (entries_at xs e saved) (drop n (downwards xs e.top (e.top - e.first)))
entries-lowered xs n e saved w h =
    let left : e.top - n - e.first ≡ e.top - e.first - n = omega arith in
    rw (downwards_drop xs e.top (e.top - e.first) n h (omega arith), left) refl

pub entries-entered : (xs ys : List Value) (e f : Extent) (saved saved' : List Extent) (n m max_locals first : ℕ) → IsStanding (length xs) e saved → n ≤ length (downwards xs e.top (e.top - e.first)) → HasFrame xs ys e.top max_locals (drop (e.top - n) (take e.top xs)) first
    → f ≡ frame_at m e.top first → saved' ≡ saved ++ saved_by e.kind (record e { top = e.top - n }) → entries_at ys f saved' ≡ called_with max_locals m n (entries_at xs e saved)
entries-entered xs ys e f saved saved' n m max_locals first w few h q r =
    let there : n ≤ e.top - e.first = omega (arith, length_downwards xs e.top (e.top - e.first) (omega arith)) in
    let within : e.top ≤ length xs = omega (arith, w.here) in
    let low : e.first ≤ e.top - n = omega (arith, w.here) in
    let args : reverse (take n (downwards xs e.top (e.top - e.first))) ≡ drop (e.top - n) (take e.top xs) = downwards_take xs e.top (e.top - e.first) n there (omega arith) within in
    let opened : entries_at ys (frame_at m e.top first) (saved ++ saved_by e.kind (record e { top = e.top - n })) ≡ with_entry (entry_of ys (frame_at m e.top first)) (entries_at xs (record e { top = e.top - n }) saved) =
    entries-opened xs ys (e.top - n) e (frame_at m e.top first) saved w low (omega arith) (frame_below xs ys e.top max_locals (drop (e.top - n) (take e.top xs)) first within h) in
    let frame : entry_of ys (frame_at m e.top first) ≡ frame_with max_locals m (reverse (take n (downwards xs e.top (e.top - e.first)))) = entry_of-frame xs ys m e.top max_locals (drop (e.top - n) (take e.top xs)) first within h ∙ ap (frame_with max_locals m) (sym args) in
    rw (q, r) (opened ∙ (ap (λ (x : Entry). with_entry x (entries_at xs (record e { top = e.top - n }) saved)) frame ∙ ap (with_entry (frame_with max_locals m (reverse (take n (downwards xs e.top (e.top - e.first)))))) (entries-lowered xs n e saved w there)))

pub entries-pushed : (xs ys : List Value) (e f : Extent) (saved saved' : List Extent) (m max_locals : ℕ) (args : List Value) (first : ℕ) → IsStanding (length xs) e saved → HasFrame xs ys e.top max_locals args first
    → f ≡ frame_at m e.top first → saved' ≡ saved ++ saved_by e.kind e → entries_at ys f saved' ≡ with_entry (frame_with max_locals m args) (entries_at xs e saved)
entries-pushed xs ys e f saved saved' m max_locals args first w h q r =
    let within : e.top ≤ length xs = omega (arith, w.here) in
    let opened : entries_at ys (frame_at m e.top first) (saved ++ saved_by e.kind e) ≡ with_entry (entry_of ys (frame_at m e.top first)) (entries_at xs e saved) =
    entries-opened xs ys e.top e (frame_at m e.top first) saved w w.here.operands (omega arith) (frame_below xs ys e.top max_locals args first within h) in
    rw (q, r) (opened ∙ ap (λ (x : Entry). with_entry x (entries_at xs e saved)) (entry_of-frame xs ys m e.top max_locals args first within h))

pub within-frame : (xs ys : List Value) (m base max_locals : ℕ) (args : List Value) (first : ℕ) → HasFrame xs ys base max_locals args first → IsWithin (length ys) (length ys) (frame_at m base first)
within-frame xs ys m base max_locals args first h = record { locals = h.start; operands = omega arith; limited = omega arith; room = h.room; under = omega (arith, h.room) }

pub standing-entered : (xs ys : List Value) (e f : Extent) (saved saved' : List Extent) (n m max_locals : ℕ) (args : List Value) (first : ℕ) → IsStanding (length xs) e saved → is_full (entries_at xs e saved) ≡ false → n ≤ length (downwards xs e.top (e.top - e.first)) → HasFrame xs ys e.top max_locals args first
    → f ≡ frame_at m e.top first → saved' ≡ saved ++ saved_by e.kind (record e { top = e.top - n }) → IsStanding (length ys) f saved'
standing-entered xs ys e f saved saved' n m max_locals args first w full few h q r =
    let there : n ≤ e.top - e.first = omega (arith, length_downwards xs e.top (e.top - e.first) (omega arith)) in
    rw (q, r) (standing-opened xs (length ys) (e.top - n) e (frame_at m e.top first) saved w full h.slots h.few (omega (arith, w.here)) (omega arith) (omega arith) (within-frame xs ys m e.top max_locals args first h))

pub standing-pushed : (xs ys : List Value) (e f : Extent) (saved saved' : List Extent) (m max_locals : ℕ) (args : List Value) (first : ℕ) → IsStanding (length xs) e saved → is_full (entries_at xs e saved) ≡ false → HasFrame xs ys e.top max_locals args first
    → f ≡ frame_at m e.top first → saved' ≡ saved ++ saved_by e.kind e → IsStanding (length ys) f saved'
standing-pushed xs ys e f saved saved' m max_locals args first w full h q r =
    rw (q, r) (standing-opened xs (length ys) e.top e (frame_at m e.top first) saved w full h.slots h.few w.here.operands (omega arith) (omega arith) (within-frame xs ys m e.top max_locals args first h))

pub standing-init : (xs : List Value) (e f : Extent) (saved saved' : List Extent) (c : ℕ) → IsStanding (length xs) e saved → is_full (entries_at xs e saved) ≡ false
    → f ≡ init_at c e.top → saved' ≡ saved ++ saved_by e.kind e → IsStanding (length xs) f saved'
standing-init xs e f saved saved' c w full q r =
    rw (q, r) (standing-opened xs (length xs) e.top e (init_at c e.top) saved w full (omega arith) w.few w.here.operands (omega arith) (omega arith)
    (record { locals = omega arith; operands = omega arith; limited = omega arith; room = omega (arith, w.here); under = omega (arith, w.here) }))

-- operands that the entries have, in the slots
pub few_operands : (xs : List Value) (e : Extent) (saved : List Extent) (s : Entries) (n : ℕ) → entries_at xs e saved ≡ s → n ≤ length s.top.stack → n ≤ length (downwards xs e.top (e.top - e.first))
few_operands xs e saved s n q h = subst (λ (t : Entries). n ≤ length t.top.stack) (sym q) h

-- a refusal after the slots grew
pub entries-kept : (xs ys : List Value) (e : Extent) (saved saved' : List Extent) (max_locals : ℕ) (args : List Value) (first : ℕ) (s : Entries) → IsStanding (length xs) e saved → HasFrame xs ys e.top max_locals args first → saved' ≡ saved → entries_at xs e saved ≡ s → entries_at ys e saved' ≡ s
entries-kept xs ys e saved saved' max_locals args first s w h q r =
    rw q (sym (entries-same xs ys (length xs) e.top e saved (frame_below xs ys e.top max_locals args first (omega (arith, w.here)) h) w (omega arith)) ∙ r)
