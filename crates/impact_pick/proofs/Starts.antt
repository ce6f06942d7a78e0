-- Classes of two linked programs start alike; the programs match.
use Rattle.std.proofs.Common.{◌≡◌, ℕ, zero, suc, ◌+◌, ◌<◌, ℤ, pos, List, [], ◌∷◌, get_or, slice_get, Bool, true, false, cond, nat_eq, refl, sym, ◌∙◌, ap, subst, inl, inr, arith, Option, Some, None}
use Rattle.std.specs.Prelude.{unwrap_or}
use Rattle.class_pool.specs.{declared.pool.Entry.Entry, Pool.entry_of, Pool.class_name_of}
use Rattle.class_pool.specs.declared.pool.Entry.TheVariants as entry
use Rattle.class_reader.specs.declared.parts.{ClassParts.ClassParts, MemberPart.MemberPart, CodePart.CodePart}
use Rattle.jvm_model.specs.declared.program.{Program.Program, ClassRec.ClassRec, FieldRec.FieldRec, Body.Body, TestEntry.TestEntry}
use Rattle.jvm_model.specs.declared.values.Value.TheVariants.{Int, Long, Null}
use Rattle.jvm_model.specs.{Builtin.builtin_count, Linked.IsDistinct, Narrow.narrow, Narrow.narrowed}
use Rattle.jvm_model.specs.Library.{builtin_classes, builtin_fields, builtin_defs}
use Rattle.jvm_model.specs.Classes.{class_at, field_at, no_class, no_field, is_static, default_of, member}
use Rattle.jvm_model.proofs.BuiltinRules.{builtin_class, builtin_field}
use Rattle.class_link.specs.ClassNames.{text_at, name_at, all_names, class_number, needed_class}
use Rattle.class_link.specs.{Literals.literals, Bodies.linked_body}
use Rattle.class_link.specs.Assembly.{constant_opening, static_opening, opening, assembled, skeleton, initialiser_from}
use Rattle.class_link.proofs.{Blocks.at_place, Assembled.holds_builtins, Assembled.class_given}
use Rattle.order_law.specs.{Pairing.PairedOption, Numbers.Numbers, Numbers.Tested, Matched.MatchedCode, Matched.Matched}
use Rattle.order_law.specs.Forms.{PairedConstant, const_int, const_long, const_null, const_literal}
use Rattle.impact_pick.specs.ByName.{same_class, by_name}
use Rattle.impact_pick.proofs.{ByNames.class_is, ByNames.literal_from, ByNames.stream, Names.AreKept, Names.entry_kept, Names.kept_file}
use Rattle.impact_pick.proofs.Records.{n, initialisers_paired, method_place, FieldSource, builtin_one, of_file, field_source, field_there, fields_before, methods_before, built_in}
use Rattle.impact_pick.proofs.{Classes.matched_code, Classes.none_paired, Classes.built_in_class, Classes.AreHeaded, Constants.literal_alike}
use Rattle.impact_pick.proofs.Targets.{NamesClasses, set, skeletons}
use Rattle.impact_pick.proofs.KeptCode.{HasKept, number_paired, IsCode, body_alike}

default_alone : (m : Numbers) (us : List ℕ) → PairedConstant m (default_of us) (default_of us)
default_alone m [] = const_null
default_alone m (u ∷ us) = outer (member u (66 ∷ 67 ∷ 73 ∷ 83 ∷ 90 ∷ [])) (nat_eq u 74)
  where
    outer : (b c : Bool) → PairedConstant m (cond b (Int (pos 0)) (cond c (Long (pos 0)) Null)) (cond b (Int (pos 0)) (cond c (Long (pos 0)) Null))
    outer true c = const_int (pos 0)
    outer false true = const_long (pos 0)
    outer false false = const_null

narrowed_alone : (m : Numbers) (us : List ℕ) (z : ℤ) → PairedConstant m (narrowed us (Int z)) (narrowed us (Int z))
unfolding narrow
narrowed_alone m [] z = const_int z
narrowed_alone m (u ∷ us) z = const_int _

builtin_openings : (m : Numbers) → m.literal 0 0 ≡ true → (f : ℕ) → f < 2 → PairedConstant m (get_or builtin_fields f no_field).opening (get_or builtin_fields f no_field).opening
unfolding builtin_fields builtin_defs
builtin_openings m e zero h = const_literal e
builtin_openings m e (suc zero) h = const_null
builtin_openings m e (suc (suc f)) h = absurd (omega arith)

-- the name that an index names is that of a class, by this number
pub record NamesNumber (names : List (List ℕ)) (slots : List (Option Entry)) (j : ℕ) : Type 0 where
  pub name : ℕ
  pub number : ℕ
  pub entry : entry_of slots j ≡ Some (entry.Class name)
  pub whole : needed_class (text_at slots name) ≡ Some (text_at slots name)
  pub is : class_number names (text_at slots name) ≡ Some number

module _ (cs ds : List ClassParts) (keeps : ℕ → Bool) (kept : AreKept cs ds keeps) (dp : IsDistinct (skeleton cs)) (dq : IsDistinct (skeleton ds)) where
  abbrev N : Numbers
  N = n cs ds keeps kept dp dq

  pub has_kept : (i j : ℕ) (c : ClassParts) → keeps (builtin_count + i) ≡ true → slice_get cs i ≡ Some c → NamesNumber (all_names cs) c.pool j → HasKept cs ds keeps kept dp dq (name_at c.pool j)
  has_kept i j c e h w =
      let s : name_at c.pool j ≡ text_at c.pool w.name = ap (λ (z : Option Entry). unwrap_or (class_name_of c.pool z) []) w.entry in
      record { number = w.number; is = ap (class_number (all_names cs)) s ∙ w.is; kept_is = entry_kept cs ds keeps kept dq i j w.name w.number c (text_at c.pool w.name) e h w.entry w.whole w.is }

  -- the first list's superclasses, superinterfaces are there
  pub record HasSupers (c : ClassParts) : Type 0 where
    pub super_class : NamesNumber (all_names cs) c.pool c.super_class
    pub interfaces : (k j : ℕ) → slice_get c.interfaces k ≡ Some j → NamesNumber (all_names cs) c.pool j

  -- ---- openings

  module _ (i : ℕ) (c : ClassParts) (keep : keeps (builtin_count + i) ≡ true) (has : slice_get cs i ≡ Some c) where
    constant_alike : (us : List ℕ) (k : ℕ) (e : Option Entry) → entry_of c.pool k ≡ e → PairedConstant N (constant_opening (literals cs) c.pool us e) (constant_opening (literals ds) c.pool us e)
    unfolding by_name
    constant_alike us k (Some (entry.Integer z)) g = narrowed_alone N us z
    constant_alike us k (Some (entry.Long z)) g = const_long z
    constant_alike us k (Some (entry.Str text)) g = const_literal (literal_from keeps (skeleton cs) (skeleton ds) (literal_alike cs ds keeps i k text c has (kept.agree i c keep has) g))
    constant_alike us k _ g = default_alone N us

    static_alike : (us : List ℕ) (o : Option ℕ) → PairedConstant N (static_opening (literals cs) c.pool us o) (static_opening (literals ds) c.pool us o)
    static_alike us None = default_alone N us
    static_alike us (Some k) = constant_alike us k (entry_of c.pool k) refl

    opening_alike : (x : MemberPart) → PairedConstant N (opening (literals cs) c.pool x) (opening (literals ds) c.pool x)
    unfolding opening
    opening_alike x = by_test (is_static x.flags)
      where
        by_test : (b : Bool) → PairedConstant N (cond b (static_opening (literals cs) c.pool (text_at c.pool x.descriptor) x.constant) (default_of (text_at c.pool x.descriptor))) (cond b (static_opening (literals ds) c.pool (text_at c.pool x.descriptor) x.constant) (default_of (text_at c.pool x.descriptor)))
        by_test true = static_alike (text_at c.pool x.descriptor) x.constant
        by_test false = default_alone N (text_at c.pool x.descriptor)

  stream_itself : N.literal 0 0 ≡ true
  unfolding by_name
  stream_itself = literal_from keeps (skeleton cs) (skeleton ds) stream

  builtin_opening : (f : ℕ) → f < 2 → PairedConstant N (field_at (skeleton cs) f).opening (field_at (skeleton ds) f).opening
  builtin_opening f low =
      subst (λ (r : FieldRec). PairedConstant N r.opening (field_at (skeleton ds) f).opening) (sym (builtin_field (skeleton cs) (built_in cs) f low))
      (subst (λ (r : FieldRec). PairedConstant N (get_or builtin_fields f no_field).opening r.opening) (sym (builtin_field (skeleton ds) (built_in ds) f low)) (builtin_openings N stream_itself f low))

  opening_by : {f g : ℕ} → FieldSource cs ds keeps kept dp dq f g → PairedConstant N (field_at (skeleton cs) f).opening (field_at (skeleton ds) g).opening
  opening_by (builtin_one {f} low) = builtin_opening f low
  opening_by (of_file i k c x e h t g) =
      let a = (field_there cs i k c x h g).1 in
      let b = (field_there ds i k c x t g).1 in
      subst (λ (r : FieldRec). PairedConstant N r.opening (field_at (skeleton ds) (fields_before ds i + k)).opening) (sym a) (subst (λ (r : FieldRec). PairedConstant N (opening (literals cs) c.pool x) r.opening) (sym b) (opening_alike i c e h x))

  -- ---- the programs

  module _ (ts us : List TestEntry) (fs gs : List (List ℕ × List ℕ)) (supers : (i : ℕ) (c : ClassParts) → slice_get cs i ≡ Some c → HasSupers c) (pools : (i : ℕ) (c : ClassParts) → slice_get cs i ≡ Some c → NamesClasses c.pool) where
    abbrev first_body : ClassParts → CodePart → Body
    first_body c code = linked_body (set cs) c.pool code

    abbrev second_body : ClassParts → CodePart → Body
    second_body c code = linked_body (set ds) c.pool code

    abbrev p : Program
    p = assembled first_body cs ts fs

    abbrev q : Program
    q = assembled second_body ds us gs

    headed : AreHeaded cs ds keeps kept dp dq
    headed i c e h =
        let s = supers i c h in (
          number_paired cs ds keeps kept dp dq (name_at c.pool c.super_class) (has_kept i c.super_class c e h s.super_class),
          λ k j g. number_paired cs ds keeps kept dp dq (name_at c.pool j) (has_kept i j c e h (s.interfaces k j g)),
        )

    pub skeletons_match : MatchedCode N (skeleton cs) (skeleton ds)
    skeletons_match = skeletons cs ds keeps kept dp dq headed

    initialisers_alike : (c d : ℕ) → same_class keeps c d ≡ true → PairedOption (Tested N.method) (class_at p c).initialiser (class_at q d).initialiser
    initialisers_alike c d e =
        let z = class_is keeps (skeleton cs) (skeleton ds) c d e in
        subst (λ (y : ℕ). PairedOption (Tested N.method) (class_at p c).initialiser (class_at q y).initialiser) z.0 (elim z.1 [
          | inl low ↦
              let r = get_or builtin_classes c no_class in
              subst (λ (z : ClassRec). PairedOption (Tested N.method) z.initialiser (class_at q c).initialiser) (sym (builtin_class p (holds_builtins first_body cs ts fs) c low))
              (subst (λ (z : ClassRec). PairedOption (Tested N.method) r.initialiser z.initialiser) (sym (builtin_class q (holds_builtins second_body ds us gs) c low)) (none_paired (Tested N.method) r.initialiser (built_in_class c low).initialiser))
          | inr k ↦
              let f = kept_file cs ds keeps kept c k in
              subst (λ (x : ℕ). PairedOption (Tested N.method) (class_at p x).initialiser (class_at q x).initialiser) f.is
              (subst (λ (z : ClassRec). PairedOption (Tested N.method) z.initialiser (class_at q (builtin_count + f.place)).initialiser) (sym (class_given first_body cs ts fs f.place f.parts f.first))
              (subst (λ (z : ClassRec). PairedOption (Tested N.method) (initialiser_from (methods_before cs f.place) f.parts.pool f.parts.methods) z.initialiser) (sym (class_given second_body ds us gs f.place f.parts f.second))
              (initialisers_paired (Tested N.method) f.parts.pool f.parts.methods (methods_before cs f.place) (methods_before ds f.place) (λ j v. let x = at_place f.parts.methods j v in method_place cs ds keeps kept dp dq f.place j f.parts x.item f.keep f.first x.there))))
        ])

    openings_alike : (f g : ℕ) → N.fields f g ≡ true → PairedConstant N (field_at p f).opening (field_at q g).opening
    unfolding assembled
    openings_alike f g e = opening_by (field_source cs ds keeps kept dp dq f g e)

    -- the linked programs match
    pub matched : ((i : ℕ) (c : ClassParts) (keep : keeps (builtin_count + i) ≡ true) (has : slice_get cs i ≡ Some c) → (k : ℕ) (x : MemberPart) (code : CodePart) → slice_get c.methods k ≡ Some x → x.code ≡ Some code →
        IsCode cs ds keeps kept dp dq skeletons_match i c keep has (pools i c has) code) → Matched N p q
    unfolding by_name
    matched codes = record {
      code = matched_code cs ds keeps kept dp dq first_body second_body ts us fs gs
          (λ i k c x code e h g s. body_alike cs ds keeps kept dp dq skeletons_match i c e h (pools i c h) code (codes i c e h k x code g s))
          headed;
      starts = record { initialisers = initialisers_alike; openings = openings_alike };
    }
