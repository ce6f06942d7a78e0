-- The instruction at the top in both runs.
use Rattle.std.proofs.Common.{◌≡◌, ℕ, Bool, true, false, cond, Option, Some, None, refl, sym, ◌∙◌, ap, subst, arith, inl}
use Rattle.jvm_model.specs.{declared.instr.Instr.Instr, declared.program.Program.Program, World.World, Builtin.instantiation_error, Classes.form_at}
use Rattle.jvm_model.specs.{Entries.Entries, Linked.Linked, Access.Access, Access.bind, Access.run}
use Rattle.jvm_model.specs.{RowsCreate.is_bare, RowsCreate.new_object, RowsCreate.row_create, RowsCalls.argument_count, RowsCalls.row_calls}
use Rattle.jvm_model.specs.{RowsStatics.row_statics, State.State, Rows.Answer, Rows.faults, Rows.none_here, Rows.using}
use Rattle.jvm_model.specs.Step.{group_of, row, row_or_none, row_here, after_row}
use Rattle.order_law.specs.{Pairing.PairedOption, Pairing.both_none, Pairing.both_some, Matched.MatchedCode, Numbers.same_numbers, Forms.PairedInstr}
use Rattle.order_law.specs.Forms as same
use Rattle.order_law.proofs.Programs.{class_of-paired, form_at-paired, named-paired, virtual-paired, interface_call-paired, special-paired}
use Rattle.order_law.proofs.Combinators.{Frames, faults-paired, stuck_row-paired, popping-paired, on_int-paired, with_kind-paired}
use Rattle.order_law.proofs.{PlainRows.throw-paired, Steps.States}
use Rattle.order_law.proofs.ObjectRows.{read_static-paired, write_static-paired, new_object-paired, bare-paired, new_array-paired, sized-paired, called-with, count-paired, and_receiver, receiver-paired, on_receiver-paired, selected-paired}
use Rattle.check_sound.proofs.{Light.light, Paced.paced_done, Paced.CutRow, PacedCalls.calls-paced, PacedCreate.cut, PacedCreate.new-paced}
use Rattle.check_sound.proofs.PacedHere.{here-paced}
use Rattle.check_sound.proofs.PacedRows.{none, one, NamesAllowed, read_static-paced, write_static-paced}
use Rattle.quiet_init.specs.Quiet.{quiet}
use Rattle.quiet_init.proofs.Beside.{IsHushed, Beside}
use Rattle.quiet_law.proofs.{Together.Equal, Clear.clear, Matching.matched, Plain.twins, Plain.plain-paired, Use.Out, Use.rows_out, Use.use_out}

-- the row of the instruction that is found
row_is : (p : Program) (s : Entries) (i : Instr) → form_at p s.top.number s.top.pc ≡ Some i → row_here p s ≡ row p i s
unfolding row_here
row_is p s i e = ap (λ (x : Option Instr). row_or_none p x s) e

none_is : (p : Program) (s : Entries) → form_at p s.top.number s.top.pc ≡ None → row_here p s ≡ none_here
unfolding row_here
none_is p s e = ap (λ (x : Option Instr). row_or_none p x s) e

module _ (p : Program) (lk : Linked p) (s t : State) (w v : World) (o : States (twins p lk) s t) (bs : Beside p Equal w v) where
  -- how the two steps come out that have these rows
  abbrev pub RowsOut : Access (Answer Entries) → Access (Answer Entries) → Type 0
  RowsOut a b = (run (bind a (after_row p s)) w).sound ≡ true → Out p s w (run (bind a (after_row p s)) w) (run (bind b (after_row (quiet p) t)) v)

  -- the row touches what both have alike, and its cost may be cut
  abbrev pub IsPaced : Access (Answer Entries) → Type 0
  IsPaced a = CutRow p (clear p w) (Unit {0}) a

  module _ (f : Frames (twins p lk) s.entries t.entries) where
    abbrev mt : MatchedCode same_numbers p (quiet p)
    mt = matched p lk

    -- new: an abstract class or an interface has no instances
    new_out : (c d : ℕ) → same_numbers.class c d ≡ true → (b b' : Bool) → b ≡ b' → ((IsHushed p c → ⊥) → IsPaced (cond b (faults instantiation_error s.entries) (using p c s.entries (new_object p c s.entries)))) →
        RowsOut (cond b (faults instantiation_error s.entries) (using p c s.entries (new_object p c s.entries))) (cond b' (faults instantiation_error t.entries) (using (quiet p) d t.entries (new_object (quiet p) d t.entries)))
    new_out c d e true true g h = rows_out p lk s t w v o bs (faults-paired (twins p lk) (mt.builtin instantiation_error (omega arith)) f.entries) (cut p lk _ (paced_done (none, light p lk instantiation_error (omega arith))))
    new_out c d e false false g h = use_out p lk s t w v o bs c d e (new_object-paired (twins p lk) c d e f) (λ n. new-paced p lk c s.entries none) h
    new_out c d e _ _ g h = absurd (cc)

    row_out : {i j : Instr} → PairedInstr same_numbers i j → (NamesAllowed p (clear p w) i → IsPaced (row p i s.entries)) → RowsOut (row p i s.entries) (row (quiet p) j t.entries)
    unfolding row row_statics row_create row_calls
    row_out (same.get_static {f = a} {g = b} e) h = use_out p lk s t w v o bs _ _ (mt.fields a b e).class (read_static-paired (twins p lk) a b e f) (λ n. read_static-paced p lk a s.entries n one) (λ n. h ((λ i. n i.0), n))
    row_out (same.put_static {f = a} {g = b} e) h = use_out p lk s t w v o bs _ _ (mt.fields a b e).class (write_static-paired (twins p lk) a b e f) (λ n. write_static-paced p lk a s.entries n one) (λ n. h ((λ i. n i.0), n))
    row_out (same.new {c} {d} e) h = new_out c d e (is_bare p c) (is_bare (quiet p) d) (bare-paired (twins p lk) c d e) h
    row_out (same.invoke_static {a} {b} e) h = use_out p lk s t w v o bs _ _ (mt.methods a b e).class (called-with (twins p lk) a b _ _ (count-paired (twins p lk) a b e) e f) (λ n. calls-paced p lk a (argument_count p a) s.entries none (λ x q. inl (omega arith))) h
    row_out (same.new_array r) h = rows_out p lk s t w v o bs (popping-paired (twins p lk) f.entries.top.stack (λ x y vs ws u us. on_int-paired (twins p lk) u (λ i. new_array-paired (twins p lk) i r f us))) (h tt)
    row_out (same.multi_new_array d r) h = rows_out p lk s t w v o bs (sized-paired (twins p lk) d false _ r f f.entries.top.stack) (h tt)
    row_out (same.invoke_virtual {a = a} {b = b} k e) h = rows_out p lk s t w v o bs (on_receiver-paired (twins p lk) f (receiver-paired (twins p lk) a b e f) (λ x y r. with_kind-paired (twins p lk) r (λ x y g.
        selected-paired (twins p lk) _ _ (virtual-paired same_numbers p (quiet p) mt a b _ _ e (class_of-paired same_numbers p (quiet p) mt g)) (and_receiver (twins p lk) a b e) f))) (h tt)
    row_out (same.invoke_interface {c = c} {d = d} {a = a} {b = b} k e) h = rows_out p lk s t w v o bs (on_receiver-paired (twins p lk) f (receiver-paired (twins p lk) a b e f) (λ x y r. with_kind-paired (twins p lk) r (λ x y g.
        selected-paired (twins p lk) _ _ (interface_call-paired same_numbers p (quiet p) mt c d a b _ _ k e (class_of-paired same_numbers p (quiet p) mt g)) (and_receiver (twins p lk) a b e) f))) (h tt)
    row_out (same.invoke_special {a = a} {b = b} k e) h = rows_out p lk s t w v o bs (on_receiver-paired (twins p lk) f (receiver-paired (twins p lk) a b e f) (λ x y r.
        selected-paired (twins p lk) _ _ (special-paired same_numbers p (quiet p) mt _ _ _ _ a b (mt.methods _ _ f.method).class (named-paired same_numbers p (quiet p) mt k) e) (and_receiver (twins p lk) a b e) f)) (h tt)
    row_out same.throw h = rows_out p lk s t w v o bs (throw-paired (twins p lk) f) (h tt)
    row_out {i} r h = rows_out p lk s t w v o bs (plain-paired p lk (group_of i) tt r f) (h tt)

    here_of : {x y : Option Instr} → PairedOption (PairedInstr same_numbers) x y → form_at p s.entries.top.number s.entries.top.pc ≡ x → form_at (quiet p) t.entries.top.number t.entries.top.pc ≡ y → RowsOut (row_here p s.entries) (row_here (quiet p) t.entries)
    here_of both_none e g =
        let a = none_is p s.entries e in
        let b = none_is (quiet p) t.entries g in
        subst (λ (z : Access (Answer Entries)). RowsOut z (row_here (quiet p) t.entries)) (sym a) (subst (λ (z : Access (Answer Entries)). RowsOut none_here z) (sym b)
        (rows_out p lk s t w v o bs (stuck_row-paired (twins p lk)) (paced_done none)))
    here_of (both_some {x = i} {y = j} r) e g =
        let a = row_is p s.entries i e in
        let b = row_is (quiet p) t.entries j g in
        subst (λ (z : Access (Answer Entries)). RowsOut z (row_here (quiet p) t.entries)) (sym a) (subst (λ (z : Access (Answer Entries)). RowsOut (row p i s.entries) z) (sym b)
        (row_out r (λ m. subst IsPaced a (here-paced p lk s.entries (λ k q. subst (NamesAllowed p (clear p w)) (let z : Some i ≡ Some k = sym e ∙ q in let y : i ≡ k = cc in y) m) (λ l. tt)))))

    -- the step at an instruction
    pub here_out : RowsOut (row_here p s.entries) (row_here (quiet p) t.entries)
    here_out = here_of (form_at-paired same_numbers p (quiet p) mt _ _ _ _ f.method f.entries.top.pc) refl refl
