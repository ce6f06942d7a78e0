-- Rows of calls touch no more than they pay for, and leave enough for a built-in method: one that is selected by the
-- receiver's class is private or not static, and a class with a built-in method has no state to read.
use Rattle.std.proofs.Common.{◌≡◌, ◌⊎◌, ℕ, ◌+◌, ◌≤◌, List, [], ◌∷◌, length, filter, Bool, true, false, not, cond, nat_le, Option, Some, None, refl, sym, ◌∙◌, arith, inl, inr}
use Rattle.std.specs.Prelude.{flat_map}
use Rattle.std.specs.{List.list_any, Str.bytes_eq}
use Rattle.std.proofs.lemmas.Bool.{and_parts, not-true}
use Rattle.jvm_model.specs.declared.{values.Value.Value, values.Kind.Kind, instr.Instr.Instr, library.Native.Native, program.Body.Body, program.Program.Program}
use Rattle.jvm_model.specs.declared.instr.Instr.TheVariants as form
use Rattle.jvm_model.specs.{Access.Access, Entries.Entries, Entries.is_full, Kinds.class_of, Linked.Linked, Rows.Answer, Classes.implements}
use Rattle.jvm_model.specs.Builtin.{class_change_error, abstract_method_error, stack_overflow_error}
use Rattle.jvm_model.specs.Classes.{class_at, method_at, is_private, is_static, member, upwards, init_name}
use Rattle.jvm_model.specs.RowsCalls.{enters_body, enters_native, calls, calls_selected, argument_count, on_receiver, receiver, call_special, row_calls}
use Rattle.jvm_model.specs.Selection.{Selected, chosen, failing, is_like, is_open_like, declared_in, all_interfaces, candidates, kept_of, redeclares, has_code, one_with_code, kept_method, or_kept, select, select_virtual, select_interface, select_special, named_class, special_start, special_path}
use Rattle.jvm_model.proofs.Interfaces.{member_first}
use Rattle.check_sound.proofs.{SelectLaws.found, SelectLaws.filtered, Light.native_trivial, Light.light, Light.null_light}
use Rattle.check_sound.proofs.Paced.{Limits, either, paced_done, paced_spend, IsLight, LeavesFor, PacedRow, on_reference-paced, with_kind-paced}
use Rattle.check_sound.proofs.PacedRows.{none, one, NamesAllowed, using-paced}

-- the method is private, or not static
abbrev IsOpen : Program → ℕ → Type 0
IsOpen p n = (is_private (method_at p n).flags ≡ true) ⊎ (is_static (method_at p n).flags ≡ false)

abbrev OpenOf : Program → Selected → Type 0
OpenOf p (chosen n) = IsOpen p n
OpenOf p (failing c) = IsLight p c

abbrev LightOf : Program → Selected → Type 0
LightOf p (chosen n) = Unit {0}
LightOf p (failing c) = IsLight p c

module _ (p : Program) (lk : Linked p) where
  -- ---- selection

  open_like : (m n : ℕ) → is_open_like p m n ≡ true → IsOpen p n
  open_like m n e = inr (not-true (is_static (method_at p n).flags) (and_parts (not (is_static (method_at p n).flags)) _ (and_parts (not (is_private (method_at p n).flags)) (is_like p m n) e).1).0)

  one-open : (xs : List ℕ) → ((n : ℕ) → member n xs ≡ true → IsOpen p n) → OpenOf p (one_with_code xs)
  one-open [] r = light p lk abstract_method_error (omega arith)
  one-open (n ∷ []) r = r n (member_first n [])
  one-open (n ∷ k ∷ ns) r = light p lk class_change_error (omega arith)

  kept-open : (m c : ℕ) → OpenOf p (kept_method p m c)
  unfolding kept_method
  kept-open m c = one-open (filter (λ n. has_code p n) (kept_of p (candidates p m c))) (λ n h.
      let a = filtered (λ n. has_code p n) (kept_of p (candidates p m c)) n h in
      let b = filtered (λ x. not (list_any (λ n. redeclares p n x) (candidates p m c))) (candidates p m c) n a.listed in
      let d = filtered (λ n. is_open_like p m n) (flat_map (λ i. (class_at p i).methods) (all_interfaces p c)) n b.listed in
      open_like m n d.passes)

  or-open : (m c : ℕ) (o : Option ℕ) → ((n : ℕ) → o ≡ Some n → IsOpen p n) → OpenOf p (or_kept p m c o)
  or-open m c None r = kept-open m c
  or-open m c (Some n) r = r n refl

  select-open : (m c : ℕ) → OpenOf p (select p m c)
  unfolding select
  select-open m c = or-open m c (declared_in p (λ n. is_open_like p m n) (upwards p c)) (λ n e. open_like m n (found (λ n. is_open_like p m n) (flat_map (λ c. (class_at p c).methods) (upwards p c)) n e).passes)

  virtual-open : (m c : ℕ) → OpenOf p (select_virtual p m c)
  unfolding select_virtual
  virtual-open m c = by (is_private (method_at p m).flags) refl
    where
      by : (b : Bool) → is_private (method_at p m).flags ≡ b → OpenOf p (cond b (chosen m) (select p m c))
      by true e = inl e
      by false e = select-open m c

  interface-open : (i m c : ℕ) → OpenOf p (select_interface p i m c)
  unfolding select_interface
  interface-open i m c = by (is_private (method_at p m).flags) (implements p c i) refl
    where
      by : (b d : Bool) → is_private (method_at p m).flags ≡ b → OpenOf p (cond b (chosen m) (cond d (select p m c) (failing 15)))
      by true d e = inl e
      by false true e = select-open m c
      by false false e = light p lk class_change_error (omega arith)

  chosen-light : (x : Selected) → OpenOf p x → LightOf p x
  chosen-light (chosen n) h = tt
  chosen-light (failing c) h = h

  or-light : (m c : ℕ) (o : Option ℕ) → LightOf p (or_kept p m c o)
  or-light m c None = chosen-light (kept_method p m c) (kept-open m c)
  or-light m c (Some n) = tt

  special-light : (current named m : ℕ) → LightOf p (select_special p current named m)
  unfolding select_special
  special-light current named m = by (bytes_eq (method_at p m).name init_name) (special_start p current named)
    where
      by : (b : Bool) (c : ℕ) → LightOf p (cond b (chosen m) (or_kept p m c (declared_in p (λ n. is_like p m n) (special_path p c))))
      by true c = tt
      by false c = or-light m c (declared_in p (λ n. is_like p m n) (special_path p c))

module _ (p : Program) (lk : Linked p) {M : Limits} where
  -- ---- calls

  body-paced : {d : ℕ} (b : Option Body) (m n : ℕ) (s : Entries) → d ≤ 4 → (method_at p m).native ≡ None → PacedRow p M 4 d (enters_body b m n s)
  body-paced None m n s e q = paced_done (e, light p lk abstract_method_error (omega arith))
  body-paced (Some b) m n s e q = either (is_full s) (paced_done (e, light p lk stack_overflow_error (omega arith))) (paced_spend (paced_done (omega arith, rw q tt)))

  pub calls-paced : {d : ℕ} (m n : ℕ) (s : Entries) → d ≤ 4 → ((x : Native) → (method_at p m).native ≡ Some x → LeavesFor p 4 d m (Some x)) → PacedRow p M 4 d (calls p m n s)
  unfolding calls
  calls-paced {d = d} m n s e r = either (nat_le n (length s.top.stack)) (by (method_at p m).native refl) (paced_done e)
    where
      by : (o : Option Native) → (method_at p m).native ≡ o → PacedRow p M 4 d (enters_native o (method_at p m).body m n s)
      by None q = body-paced (method_at p m).body m n s e q
      by (Some x) q = paced_done (e, rw q (r x q))

  open-paced : (x : Selected) (n : ℕ) (s : Entries) → OpenOf p x → PacedRow p M 4 1 (calls_selected p x n s)
  open-paced (chosen m) n s h = calls-paced m n s one (λ x e. inr (omega arith, h))
  open-paced (failing c) n s h = paced_done (one, h)

  whole-paced : (x : Selected) (n : ℕ) (s : Entries) → LightOf p x → PacedRow p M 4 0 (calls_selected p x n s)
  whole-paced (chosen m) n s h = calls-paced m n s none (λ x e. inl (omega arith))
  whole-paced (failing c) n s h = paced_done (none, h)

  -- where the receiver is a constant, no head is read
  const-paced : (x : Selected) (n : ℕ) (s : Entries) → OpenOf p x → PacedRow p M 4 0 (calls_selected p x n s)
  const-paced x n s h = whole-paced x n s (chosen-light p lk x h)

  receiver-paced : (s : Entries) (o : Option Value) {k : Value → Access (Answer Entries)} → ((v : Value) → PacedRow p M 4 0 (k v)) → PacedRow p M 4 0 (on_receiver s o k)
  receiver-paced s None r = paced_done none
  receiver-paced s (Some v) r = on_reference-paced p (null_light p lk) none s v (r v)

  special-paced : (k : Kind) (m : ℕ) (s : Entries) → PacedRow p M 4 0 (call_special p k m s)
  special-paced k m s = whole-paced (select_special p (method_at p s.top.number).class (named_class k) m) (argument_count p m + 1) s (special-light p lk (method_at p s.top.number).class (named_class k) m)

  pub calls-row : (i : Instr) (s : Entries) → NamesAllowed p M i → PacedRow p M 4 0 (row_calls p i s)
  unfolding row_calls
  calls-row (form.InvokeStatic m) s q = using-paced p lk (method_at p m).class s (calls p m (argument_count p m) s) q
      (λ e. calls-paced m (argument_count p m) s none (λ x q. inl (omega arith)))
      (λ e. calls-paced m (argument_count p m) s one (λ x q. absurd (let z : true ≡ false = sym (native_trivial p lk m x q) ∙ e in cc)))
  calls-row (form.InvokeVirtual k m) s q = receiver-paced s (receiver p m s) (λ v. with_kind-paced p (null_light p lk) none v
      (λ x. const-paced (select_virtual p m (class_of x)) (argument_count p m + 1) s (virtual-open p lk m (class_of x)))
      (λ x. open-paced (select_virtual p m (class_of x)) (argument_count p m + 1) s (virtual-open p lk m (class_of x))))
  calls-row (form.InvokeInterface i m) s q = receiver-paced s (receiver p m s) (λ v. with_kind-paced p (null_light p lk) none v
      (λ x. const-paced (select_interface p i m (class_of x)) (argument_count p m + 1) s (interface-open p lk i m (class_of x)))
      (λ x. open-paced (select_interface p i m (class_of x)) (argument_count p m + 1) s (interface-open p lk i m (class_of x))))
  calls-row (form.InvokeSpecial k m) s q = receiver-paced s (receiver p m s) (λ v. special-paced k m s)
  calls-row _ s q = paced_done none
