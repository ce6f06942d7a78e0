-- A row that enters a built-in method leaves the calling frame on top.
use Rattle.std.proofs.Common.{◌≡◌, ℕ, zero, suc, ◌+◌, ℤ, pos, negsuc, List, [], ◌∷◌, length, Bool, true, false, cond, nat_le, nat_lt, refl, ap, subst, Option, Some, None, IsSome}
use Rattle.jvm_model.specs.declared.values.{Value.Value, Kind.Kind}
use Rattle.jvm_model.specs.declared.values.Value.TheVariants.{Int, Long, Null, Lit, Obj}
use Rattle.jvm_model.specs.declared.values.Kind.TheVariants as kind
use Rattle.jvm_model.specs.declared.library.Native.{Native}
use Rattle.jvm_model.specs.declared.instr.Instr.{Instr}
use Rattle.jvm_model.specs.declared.instr.Instr.TheVariants as form
use Rattle.jvm_model.specs.declared.outcome.Next.TheVariants.{Enter}
use Rattle.jvm_model.specs.declared.program.{Body.Body, Program.Program}
use Rattle.jvm_model.specs.declared.state.{EntryKind.EntryKind, EntryKind.TheVariants.Absent, EntryKind.TheVariants.InMethod, EntryKind.TheVariants.InClass}
use Rattle.jvm_model.specs.{World.World, Kinds.kind_fits, RowsFields.row_fields}
use Rattle.jvm_model.specs.Access.{Access, done, read, write, make, spend, run}
use Rattle.jvm_model.specs.Classes.{method_at, field_at, form_at}
use Rattle.jvm_model.specs.Entries.{Entries, is_full, popped_entry}
use Rattle.jvm_model.specs.Rows.{Answer, answer, Used, ready, begun, refused, begin, once, using, popping, on_int, on_object, on_reference, with_kind}
use Rattle.jvm_model.specs.RowsArrays.{on_array, in_range, holds_references, checked, row_arrays}
use Rattle.jvm_model.specs.RowsCalls.{enters_body, enters_native, calls, calls_selected, argument_count, on_receiver, receiver, row_calls}
use Rattle.jvm_model.specs.RowsCasts.{cast, tested, row_casts}
use Rattle.jvm_model.specs.RowsCreate.{new_object, new_array, nest, nested, sized, is_bare, row_create}
use Rattle.jvm_model.specs.RowsReturn.{handed_on, hands_on, row_return}
use Rattle.jvm_model.specs.RowsStatics.{read_static, write_static, row_statics}
use Rattle.jvm_model.specs.Selection.{Selected, chosen, failing}
use Rattle.jvm_model.specs.Step.{Group, moves, arith as of_arith, branches, statics, fields, create, arrays, casts, calls as of_calls, returns, throw, group_of, row_throw, row_of, row, row_or_none, row_here}
use Rattle.vm_arith.specs.Pure.{TouchesNothing, is_pure}
use Rattle.vm_interp.proofs.Leaves.{Each, each_run, each_bind, each_either}
use Rattle.vm_interp.proofs.{NoEntry.enters, NoEntry.NoEntry, Quiet.quiet_enters_none}

abbrev Framed : Program → Answer Entries → Type 0
Framed p (answer (Enter m) t) = IsSome (method_at p m).native → t.top.kind ≡ InMethod
Framed p _ = Unit {0}

framed_none : (p : Program) (a : Answer Entries) → enters a ≡ false → Framed p a
framed_none p (answer (Enter m) t) h = absurd (cc)
framed_none p _ h = tt

none_framed : (p : Program) (t : Access (Answer Entries)) → NoEntry t → Each (Framed p) t
none_framed p (done a) h = framed_none p a h
none_framed p (read l k) h = λ c. none_framed p (k c) (h c)
none_framed p (write l c t) h = none_framed p t h
none_framed p (make x k) h = λ o. none_framed p (k o) (h o)
none_framed p (spend n t) h = none_framed p t h

module _ (p : Program) where
  abbrev IsFramed : Access (Answer Entries) → Type 0
  IsFramed t = Each (Framed p) t

  either : (b : Bool) (t u : Access (Answer Entries)) → IsFramed t → IsFramed u → IsFramed (cond b t u)
  either b t u g h = each_either (Framed p) b t u g h

  pops : (xs : List Value) (k : Value → List Value → Access (Answer Entries)) → ((v : Value) (vs : List Value) → IsFramed (k v vs)) → IsFramed (popping xs k)
  pops [] k f = tt
  pops (v ∷ vs) k f = f v vs

  ints : (v : Value) (k : ℤ → Access (Answer Entries)) → ((n : ℤ) → IsFramed (k n)) → IsFramed (on_int v k)
  ints (Int n) k f = f n
  ints _ k f = tt

  objects : (s : Entries) (v : Value) (k : ℕ → Access (Answer Entries)) → ((o : ℕ) → IsFramed (k o)) → IsFramed (on_object s v k)
  objects s (Obj o) k f = f o
  objects s _ k f = tt

  references : (s : Entries) (v : Value) (k : Access (Answer Entries)) → IsFramed k → IsFramed (on_reference s v k)
  references s (Lit n) k f = f
  references s (Obj o) k f = f
  references s _ k f = tt

  kinds : (v : Value) (k : Kind → Access (Answer Entries)) → ((x : Kind) → IsFramed (k x)) → IsFramed (with_kind v k)
  kinds (Lit n) k f = f _
  kinds (Obj o) k f = λ h. f h.kind
  kinds _ k f = tt

  once_so : (s : Entries) (k : Access (Answer Entries)) → IsFramed k → (u : Used) → IsFramed (once s k u)
  once_so s k f ready = f
  once_so s k f _ = tt

  uses : (c : ℕ) (s : Entries) (k : Access (Answer Entries)) → IsFramed k → IsFramed (using p c s k)
  uses c s k f = each_bind (Framed p) (begin p c s) (once s k) (λ u. once_so s k f u)

  statics_so : (i : Instr) (s : Entries) → IsFramed (row_statics p i s)
  unfolding row_statics read_static write_static
  statics_so (form.GetStatic f) s = uses (field_at p f).class s _ (λ v. tt)
  statics_so (form.PutStatic f) s = uses (field_at p f).class s _ (pops s.top.stack _ (λ v vs. tt))
  statics_so _ s = tt

  fields_so : (i : Instr) (s : Entries) → IsFramed (row_fields p i s)
  unfolding row_fields
  fields_so (form.GetField c f) s = pops s.top.stack _ (λ r vs. objects _ r _ (λ o v. tt))
  fields_so (form.PutField c f) s = pops s.top.stack _ (λ v vs. pops vs _ (λ r rest. objects _ r _ (λ o. tt)))
  fields_so _ s = tt

  array_made : (k : Kind) (s : Entries) (vs : List Value) (n : ℤ) → IsFramed (new_array p k s vs n)
  array_made k s vs (pos n) = λ o. tt
  array_made k s vs (negsuc n) = tt

  nested_so : (k : Kind) (s : Entries) (vs : List Value) (ns : List ℕ) → IsFramed (nested p k s vs ns)
  nested_so k s vs [] = tt
  nested_so k s vs (n ∷ ms) = each_bind (Framed p) (nest p k n ms) _ (λ o. tt)

  sized_so : (k : Kind) (s : Entries) (d : ℕ) (vs : List Value) (bad : Bool) (ns : List ℕ) → IsFramed (sized p k s d vs bad ns)
  sized_so k s zero vs bad ns = either bad _ _ tt (nested_so k s vs ns)
  sized_so k s (suc d) vs bad ns = pops vs _ (λ v rest. ints v _ (λ n. elim n as (λ (z : ℤ). IsFramed (elim z [ pos m ↦ sized p k s d rest bad (m ∷ ns) | negsuc m ↦ sized p k s d rest true ns ])) [
    | pos m ↦ sized_so k s d rest bad (m ∷ ns)
    | negsuc m ↦ sized_so k s d rest true ns
  ]))

  create_so : (i : Instr) (s : Entries) → IsFramed (row_create p i s)
  unfolding row_create new_object
  create_so (form.New c) s = either (is_bare p c) _ _ tt (uses c s _ (λ o. tt))
  create_so (form.NewArray k) s = pops s.top.stack _ (λ v vs. ints v _ (λ n. array_made k s vs n))
  create_so (form.MultiNewArray k d) s = sized_so k s d s.top.stack false []
  create_so _ s = tt

  array_so : (k : Kind) (t : Access (Answer Entries)) → IsFramed t → IsFramed (on_array k t)
  array_so (kind.Class c) t f = tt
  array_so (kind.Array d b) t f = f

  range_so : (s : Entries) (i : ℤ) (n : ℕ) (k : ℕ → Access (Answer Entries)) → ((j : ℕ) → IsFramed (k j)) → IsFramed (in_range s i n k)
  range_so s (pos j) n k f = either (nat_lt j n) _ _ (f j) tt
  range_so s (negsuc j) n k f = tt

  checked_so : (k : Kind) (s : Entries) (v : Value) (t : Access (Answer Entries)) → IsFramed t → IsFramed (checked p k s v t)
  checked_so k s Null t f = f
  checked_so k s (Lit n) t f = either (kind_fits p _ _) _ _ f tt
  checked_so k s (Obj o) t f = λ h. either (kind_fits p h.kind _) _ _ f tt
  checked_so k s _ t f = tt

  arrays_so : (i : Instr) (s : Entries) → IsFramed (row_arrays p i s)
  unfolding row_arrays
  arrays_so (form.ArrayLoad c) s = pops s.top.stack _ (λ v vs. pops vs _ (λ r rest. ints v _ (λ i. objects _ r _ (λ o h. array_so h.kind _ (range_so _ i h.length _ (λ n x. tt))))))
  arrays_so (form.ArrayStore c) s = pops s.top.stack _ (λ v vs. pops vs _ (λ j ws. pops ws _ (λ r rest. ints j _ (λ i. objects _ r _ (λ o h. array_so h.kind _ (range_so _ i h.length _ (λ n. either (holds_references c) _ _ (checked_so h.kind _ v _ tt) tt)))))))
  arrays_so form.ArrayLength s = pops s.top.stack _ (λ r vs. objects _ r _ (λ o h. array_so h.kind _ tt))
  arrays_so _ s = tt

  cast_so : (k : Kind) (s : Entries) (v : Value) (vs : List Value) → IsFramed (cast p k s v vs)
  cast_so k s (Lit n) vs = either (kind_fits p _ k) _ _ tt tt
  cast_so k s (Obj o) vs = λ h. either (kind_fits p h.kind k) _ _ tt tt
  cast_so k s _ vs = tt

  tested_so : (k : Kind) (s : Entries) (v : Value) (vs : List Value) → IsFramed (tested p k s v vs)
  tested_so k s (Obj o) vs = λ h. tt
  tested_so k s _ vs = tt

  casts_so : (i : Instr) (s : Entries) → IsFramed (row_casts p i s)
  unfolding row_casts
  casts_so (form.CheckCast k) s = pops s.top.stack _ (λ v vs. cast_so k s v vs)
  casts_so (form.InstanceOf k) s = pops s.top.stack _ (λ v vs. tested_so k s v vs)
  casts_so _ s = tt

  handed_so : (k : EntryKind) (vs : List Value) (s : Entries) → IsFramed (handed_on k p vs s)
  handed_so Absent vs s = tt
  handed_so InMethod [] s = tt
  handed_so InMethod (v ∷ vs) s = tt
  handed_so (InClass b) vs s = tt

  returns_so : (i : Instr) (s : Entries) → IsFramed (row_return p i s)
  unfolding row_return hands_on
  returns_so (form.Return None) s = handed_so (popped_entry s).top.kind [] (popped_entry s)
  returns_so (form.Return (Some x)) s = pops s.top.stack _ (λ v vs. handed_so (popped_entry s).top.kind _ (popped_entry s))
  returns_so _ s = tt

  throw_so : (s : Entries) → IsFramed (row_throw s)
  unfolding row_throw
  throw_so s = pops s.top.stack _ (λ v vs. objects s v _ (λ o. tt))

  module _ (s : Entries) (k : s.top.kind ≡ InMethod) where
    body_so : (b : Option Body) (m n : ℕ) → (method_at p m).native ≡ None → IsFramed (enters_body b m n s)
    body_so None m n e = tt
    body_so (Some b) m n e = either (is_full s) _ _ tt (λ i. absurd (let z = subst (λ (o : Option Native). IsSome o) e i in cc))

    native_so : (x : Option Native) (m n : ℕ) → (method_at p m).native ≡ x → IsFramed (enters_native x (method_at p m).body m n s)
    native_so (Some x) m n e = λ i. k
    native_so None m n e = body_so (method_at p m).body m n e

    call_so : (m n : ℕ) → IsFramed (calls p m n s)
    unfolding calls
    call_so m n = either (nat_le n (length s.top.stack)) _ _ (native_so (method_at p m).native m n refl) tt

    selected_so : (x : Selected) (n : ℕ) → IsFramed (calls_selected p x n s)
    selected_so (chosen m) n = call_so m n
    selected_so (failing c) n = tt

    received : (o : Option Value) (f : Value → Access (Answer Entries)) → ((v : Value) → IsFramed (f v)) → IsFramed (on_receiver s o f)
    received None f g = tt
    received (Some v) f g = references s v (f v) (g v)

    calls_so : (i : Instr) → IsFramed (row_calls p i s)
    unfolding row_calls
    calls_so (form.InvokeStatic m) = uses (method_at p m).class s _ (call_so m (argument_count p m))
    calls_so (form.InvokeVirtual c m) = received (receiver p m s) _ (λ v. kinds v _ (λ x. selected_so _ (argument_count p m + 1)))
    calls_so (form.InvokeInterface c m) = received (receiver p m s) _ (λ v. kinds v _ (λ x. selected_so _ (argument_count p m + 1)))
    calls_so (form.InvokeSpecial c m) = received (receiver p m s) _ (λ v. selected_so _ (argument_count p m + 1))
    calls_so _ = tt

    row_so : (i : Instr) → IsFramed (row p i s)
    unfolding row
    row_so i = by (group_of i) refl
      where
        quiet : TouchesNothing i → IsFramed (row p i s)
        quiet t = none_framed p (row p i s) (quiet_enters_none p i s t)

        by : (g : Group) → group_of i ≡ g → IsFramed (row_of g p i s)
        by moves e = subst (λ (g : Group). IsFramed (row_of g p i s)) e (quiet (ap is_pure e))
        by of_arith e = subst (λ (g : Group). IsFramed (row_of g p i s)) e (quiet (ap is_pure e))
        by branches e = subst (λ (g : Group). IsFramed (row_of g p i s)) e (quiet (ap is_pure e))
        by statics e = statics_so i s
        by fields e = fields_so i s
        by create e = create_so i s
        by arrays e = arrays_so i s
        by casts e = casts_so i s
        by of_calls e = calls_so i
        by returns e = returns_so i s
        by throw e = throw_so s

    here_so : (o : Option Instr) → IsFramed (row_or_none p o s)
    here_so None = tt
    here_so (Some i) = row_so i

    -- the calling frame is on top where a built-in method is entered
    pub frame_stays : (w : World) (m : ℕ) (t : Entries) → (run (row_here p s) w).value ≡ answer (Enter m) t → IsSome (method_at p m).native → t.top.kind ≡ InMethod
    unfolding row_here
    frame_stays w m t e = subst (λ (a : Answer Entries). Framed p a) e (each_run (Framed p) (row_here p s) w (here_so (form_at p s.top.number s.top.pc)))
