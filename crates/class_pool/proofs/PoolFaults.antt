-- A pool has only the faults of its own sorts.
use Rattle.std.proofs.Common.{◌≡◌, ℕ, ◌-◌, eqb, ltb, ◌&&◌, List, [], length, Option, Some, None, Result, Ok, Err, subst}
use Rattle.std.specs.Int.{Width, w8, w16, w32, w64, cast_signed}
use Rattle.et_base.specs.{UtfReading.units_read, Answers.◌>>=◌}
use Rattle.class_pool.specs.{declared.fault.Fault.Fault, declared.pool.Entry.Entry, Reading.number_at, Reading.run_at, Offsets.IsPoolFault}
use Rattle.class_pool.specs.declared.fault.Fault.TheVariants.{Truncated, BadTag, BadUtf, BadIndex, BadDescriptor}
use Rattle.class_pool.specs.declared.pool.Entry.TheVariants.{Utf8, Integer, Float, Long, Double, Class, Str, Field, Method, InterfaceMethod, NameAndType, MethodHandle, MethodType, InvokeDynamic}
use Rattle.class_pool.specs.Pool.{units_or, text_at, single_at, twin_at, handle_at, twins_at, singles_at, numbers_at, body_at, entry_at, slot_by, slot_at, is_second, slots_at, wrong_index, wrong_name, pass, no_place, indices_pass, names_pass, pool_at}
use Rattle.class_pool.proofs.Faults.{Refuses, bind_refuses, refuses_then, refuses_mapped, refuses_if, refuses_never, refuses_number, refuses_run, refuses_counted}

abbrev Only : {A : Type 0} → (List ℕ → Result A Fault) → Type 0
Only read = Refuses IsPoolFault read

number : (w : Width) → Only (λ bytes. number_at w bytes)
number w = refuses_number IsPoolFault w (λ bytes. Truncated (length bytes)) (λ bytes. tt)

units : (left : ℕ) (r : Result (List ℕ) ℕ) (fault : Fault) → units_or left r ≡ Err fault → IsPoolFault fault
units left (Ok us) fault e = absurd cc
units left (Err at) fault e = subst IsPoolFault (let s : BadUtf (left - at) ≡ fault = cc in s) tt

text : Only text_at
unfolding text_at
text = refuses_then IsPoolFault (λ bytes. number_at w16 bytes) (λ all n rest. run_at n rest >>= λ run. units_or (length rest) (units_read run.0) >>= λ units. Ok (Utf8 units, run.1)) (number w16)
    (λ all n. refuses_then IsPoolFault (λ bytes. run_at n bytes) (λ all run rest. units_or (length all) (units_read run) >>= λ us. Ok (Utf8 us, rest)) (refuses_run IsPoolFault n (λ bytes. Truncated (length bytes)) (λ bytes. tt))
    (λ all run bytes fault e. bind_refuses IsPoolFault (units_or (length all) (units_read run)) (λ us. Ok (Utf8 us, bytes)) fault (units (length all) (units_read run)) (λ us is h. absurd cc) e))

single : (made : ℕ → Entry) → Only (single_at made)
single made = refuses_mapped IsPoolFault made (λ bytes. number_at w16 bytes) (number w16)

twin : (made : ℕ → ℕ → Entry) → Only (twin_at made)
twin made = refuses_then IsPoolFault (λ bytes. number_at w16 bytes) (λ _ a rest. number_at w16 rest >>= λ b. Ok (made a b.0, b.1)) (number w16) (λ _ a. refuses_mapped IsPoolFault (made a) (λ bytes. number_at w16 bytes) (number w16))

handle : Only handle_at
unfolding handle_at
handle = refuses_then IsPoolFault (λ bytes. number_at w8 bytes) (λ _ a rest. number_at w16 rest >>= λ b. Ok (MethodHandle a b.0, b.1)) (number w8) (λ _ a. refuses_mapped IsPoolFault (MethodHandle a) (λ bytes. number_at w16 bytes) (number w16))

twins : (tag left : ℕ) → Only (twins_at tag left)
unfolding twins_at
twins tag left =
    refuses_if IsPoolFault (eqb tag 9) _ _ (twin Field)
    (refuses_if IsPoolFault (eqb tag 10) _ _ (twin Method)
    (refuses_if IsPoolFault (eqb tag 11) _ _ (twin InterfaceMethod)
    (refuses_if IsPoolFault (eqb tag 12) _ _ (twin NameAndType)
    (refuses_if IsPoolFault (eqb tag 18) _ _ (twin InvokeDynamic) (refuses_never IsPoolFault (BadTag left tag) tt)))))

singles : (tag left : ℕ) → Only (singles_at tag left)
unfolding singles_at
singles tag left =
    refuses_if IsPoolFault (eqb tag 7) _ _ (single Class)
    (refuses_if IsPoolFault (eqb tag 8) _ _ (single Str)
    (refuses_if IsPoolFault (eqb tag 16) _ _ (single MethodType) (twins tag left)))

numbers : (tag slots left : ℕ) → Only (numbers_at tag slots left)
unfolding numbers_at
numbers tag slots left =
    refuses_if IsPoolFault (eqb tag 3) _ _ (refuses_mapped IsPoolFault (λ n. Integer (cast_signed w32 n)) (λ bytes. number_at w32 bytes) (number w32))
    (refuses_if IsPoolFault (eqb tag 4) _ _ (refuses_mapped IsPoolFault Float (λ bytes. number_at w32 bytes) (number w32))
    (refuses_if IsPoolFault (eqb tag 5 && ltb 0 slots) _ _ (refuses_mapped IsPoolFault (λ n. Long (cast_signed w64 n)) (λ bytes. number_at w64 bytes) (number w64))
    (refuses_if IsPoolFault (eqb tag 6 && ltb 0 slots) _ _ (refuses_mapped IsPoolFault Double (λ bytes. number_at w64 bytes) (number w64)) (singles tag left))))

body : (tag slots left : ℕ) → Only (body_at tag slots left)
unfolding body_at
body tag slots left = refuses_if IsPoolFault (eqb tag 1) _ _ text (refuses_if IsPoolFault (eqb tag 15) _ _ handle (numbers tag slots left))

entry : (slots : ℕ) → Only (entry_at slots)
unfolding entry_at
entry slots = refuses_then IsPoolFault (λ bytes. number_at w8 bytes) (λ all tag rest. body_at tag slots (length all) rest) (number w8) (λ all tag. body tag slots (length all))

slot : (before : List (Option Entry)) (slots : ℕ) → Only (slot_at before slots)
unfolding slot_by
slot before slots = refuses_if IsPoolFault (is_second before) (λ bytes. Ok (None, bytes)) (λ bytes. entry_at slots bytes >>= λ e. Ok (Some e.0, e.1)) (λ bytes fault e. absurd cc) (refuses_mapped IsPoolFault Some (entry_at slots) (entry slots))

no_place_fault : (fault : ℕ → Fault) (o : Option ℕ) (g : Fault) → ((left : ℕ) → IsPoolFault (fault left)) → no_place fault o ≡ Err g → IsPoolFault g
no_place_fault fault None g p e = absurd cc
no_place_fault fault (Some left) g p e = subst IsPoolFault (let s : fault left ≡ g = cc in s) (p left)

indices : (slots : List (Option Entry)) (left : ℕ) (fault : Fault) → indices_pass slots left ≡ Err fault → IsPoolFault fault
unfolding indices_pass
indices slots left fault e = no_place_fault BadIndex (pass (wrong_index slots) left slots) fault (λ left. tt) e

names : (slots : List (Option Entry)) (left : ℕ) (fault : Fault) → names_pass slots left ≡ Err fault → IsPoolFault fault
unfolding names_pass
names slots left fault e = no_place_fault BadDescriptor (pass (wrong_name slots) left slots) fault (λ left. tt) e

pub refuses_pool : Refuses IsPoolFault pool_at
unfolding pool_at
refuses_pool = refuses_then IsPoolFault (λ bytes. number_at w16 bytes)
    (λ all n rest. slots_at n rest >>= λ slots. indices_pass slots.0 (length rest) >>= λ _. names_pass slots.0 (length rest) >>= λ _. Ok slots) (number w16)
    (λ all n. refuses_then IsPoolFault (λ bytes. slots_at n bytes) (λ all slots rest. indices_pass slots (length all) >>= λ _. names_pass slots (length all) >>= λ _. Ok (slots, rest)) (refuses_counted IsPoolFault slot_at slot (n - 1) [])
    (λ all slots bytes fault e. bind_refuses IsPoolFault (indices_pass slots (length all)) (λ _. names_pass slots (length all) >>= λ _. Ok (slots, bytes)) fault (indices slots (length all))
    (λ u is h. bind_refuses IsPoolFault (names_pass slots (length all)) (λ _. Ok (slots, bytes)) fault (names slots (length all)) (λ u is h. absurd cc) h) e))
