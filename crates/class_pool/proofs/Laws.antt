-- A reader of a grammar: what it takes is spelled so, and what is spelled so is taken, whatever follows.
use Rattle.std.proofs.Common.{◌≡◌, ℕ, ℤ, zero, suc, ◌+◌, ◌-◌, ◌^◌, ◌<◌, ◌≤◌, Bool, true, false, cond, ltb, eqb, eq-eqb, List, [], ◌∷◌, ◌++◌, length, take, drop, Result, Ok, Err, refl, sym, ap, subst, ◌∙◌, append_assoc, arith, inl, inr}
use Rattle.std.specs.Int.{Width, w8, w16, w32, w64, byte_len, from_be_bytes, to_be_bytes, cast_signed, cast_unsigned}
use Rattle.std.proofs.lemmas.{Int.of_z-to_z, Int.to_z-of_z, Bool.cases_lt, Bool.ltb-false, Bool.le-ltb, Bool.eqb-true}
use borrow.Author.Gap.{read_sfits}
use mir.Val.{bits}
use mir.ValLaws.{of_z_fits}
use Rattle.std.proofs.lemmas.List.{take_at, drop_at, take-append-drop, length-append, length-take, get_or-drop, get_or-take, get_or_past, append-nil}
use Rattle.std.proofs.lemmas.Nat.{be_bytes_2, be_bytes_4, be_bytes_8, from_be_bytes-to_be_bytes_2, from_be_bytes-to_be_bytes_4, from_be_bytes-to_be_bytes_8}
use Rattle.class_pool.specs.declared.fault.{Fault.Fault, Fault.TheVariants.Truncated}
use Rattle.et_base.specs.Answers.{◌>>=◌, tested}
use Rattle.class_pool.specs.{Reading.number_or, Reading.number_at, Reading.run_or, Reading.run_at, Loops.counted, Loops.folded}
use Rattle.class_pool.specs.Grammar.{Joined, Chain, IsBytes, Nothing, Then, Mapped, Never, Tested, Number, Signed, Run, Counted, Sized}

pub IsBytes-drop : (n : ℕ) (bytes : List ℕ) → IsBytes bytes → IsBytes (drop n bytes)
IsBytes-drop n bytes h i = rw get_or-drop (h (n + i))

pub IsBytes-take : (n : ℕ) (bytes : List ℕ) → IsBytes bytes → IsBytes (take n bytes)
IsBytes-take n bytes h i =
    elim (cases_lt i n) [
      | inl lt ↦ rw (get_or-take n bytes i 0 lt) (h i)
      | inr le ↦ rw (get_or_past (take n bytes) i 0 (omega (arith, length-take n bytes))) (omega arith)
    ]

pub bind_ok : {A B : Type 0} (r : Result A Fault) (f : A → Result B Fault) (y : B) → (r >>= f) ≡ Ok y → (x : A) × (r ≡ Ok x) × (f x ≡ Ok y)
bind_ok (Ok x) f y e = (x, refl, e)
bind_ok (Err d) f y e = absurd cc

pub guard_ok : {A : Type 0} (b : Bool) (d : Fault) (x y : A) → cond b (Err d) (Ok x) ≡ Ok y → (b ≡ false) × (x ≡ y)
guard_ok true d x y e = absurd cc
guard_ok false d x y e = (refl, cc)

abbrev pub done : {A : Type 0} → A → Result A Fault
done x = Ok x

pub ok_is : {A : Type 0} (x y : A) → done x ≡ done y → x ≡ y
ok_is x y e = cc

-- some front of the bytes spells what was read, and the rest follows
pub record Taken {A : Type 0} (S : List ℕ → A → Type 0) (bytes : List ℕ) (x : A × List ℕ) : Type 0 where
  pub text : List ℕ
  pub parts : bytes ≡ text ++ x.1
  pub spelled : S text x.0
  pub rest_fits : IsBytes x.1

pub record Reads {A : Type 0} (S : List ℕ → A → Type 0) (read : List ℕ → Result (A × List ℕ) Fault) : Type 0 where
  pub takes : (bytes : List ℕ) (x : A × List ℕ) → IsBytes bytes → read bytes ≡ Ok x → Taken S bytes x
  pub again : (text rest : List ℕ) (x : A) → S text x → read (text ++ rest) ≡ Ok (x, rest)

-- ---- nothing is read

pub reads_nothing : {A : Type 0} (a : A) → Reads (Nothing a) (λ bytes. Ok (a, bytes))
reads_nothing a = record {
  takes = λ bytes x fits e. subst (λ y. Taken (Nothing a) bytes y) (ok_is (a, bytes) x e) (record { text = []; parts = refl; spelled = (refl, refl); rest_fits = fits });
  again = λ text rest x s. rw (s.0, s.1) refl;
}

-- ---- one part and then another, which may depend on it

-- the second reader may look at all of the bytes for the places of its faults
pub reads_then : {A B : Type 0} (S : List ℕ → A → Type 0) (T : A → List ℕ → B → Type 0) (first : List ℕ → Result (A × List ℕ) Fault) (next : List ℕ → A → List ℕ → Result (B × List ℕ) Fault)
    → Reads S first → ((all : List ℕ) (x : A) → Reads (T x) (next all x)) → Reads (Then S T) (λ bytes. first bytes >>= λ x. next bytes x.0 x.1)
reads_then S T first next p q = record {
  takes = λ bytes y fits e.
      let a = bind_ok (first bytes) (λ x. next bytes x.0 x.1) y e in
      let t = p.takes bytes a.0 fits a.1 in
      let u = (q bytes a.0.0).takes a.0.1 y t.rest_fits a.2 in
      record { text = t.text ++ u.text; parts = t.parts ∙ ap (λ (r : List ℕ). t.text ++ r) u.parts ∙ sym (append_assoc t.text u.text y.1); spelled = (a.0.0, t.text, u.text, refl, t.spelled, u.spelled); rest_fits = u.rest_fits };
  again = λ text rest y (x, one, more, e, s, t).
      let whole : text ++ rest ≡ one ++ (more ++ rest) = ap (λ b. b ++ rest) e ∙ append_assoc one more rest in
      ap (λ r. r >>= λ x. next (text ++ rest) x.0 x.1) (ap first whole ∙ p.again one (more ++ rest) x s) ∙ (q (text ++ rest) x).again more rest y t;
}

-- ---- what was read, in a constructor

pub reads_mapped : {A B : Type 0} (f : A → B) (S : List ℕ → A → Type 0) (read : List ℕ → Result (A × List ℕ) Fault) → Reads S read → Reads (Mapped f S) (λ bytes. read bytes >>= λ x. Ok (f x.0, x.1))
reads_mapped f S read p = record {
  takes = λ bytes y fits e.
      let a = bind_ok (read bytes) (λ x. Ok (f x.0, x.1)) y e in
      let t = p.takes bytes a.0 fits a.1 in
      subst (λ z. Taken (Mapped f S) bytes z) (ok_is (f a.0.0, a.0.1) y a.2) (record { text = t.text; parts = t.parts; spelled = (a.0.0, t.spelled, refl); rest_fits = t.rest_fits });
  again = λ text rest y (x, s, e). ap (λ r. r >>= λ x. Ok (f x.0, x.1)) (p.again text rest x s) ∙ ap (λ z. Ok (z, rest)) (sym e);
}

-- ---- one of two, and none

pub reads_if : {A : Type 0} (b : Bool) (S T : List ℕ → A → Type 0) (r q : List ℕ → Result (A × List ℕ) Fault) → Reads S r → Reads T q → Reads (λ text x. cond b (S text x) (T text x)) (λ bytes. cond b (r bytes) (q bytes))
reads_if true S T r q p o = p
reads_if false S T r q p o = o

pub reads_never : {A : Type 0} (fault : Fault) → Reads {A = A} Never (λ bytes. Err fault)
reads_never fault = record { takes = λ bytes x fits e. absurd cc; again = λ text rest x s. absurd s }

-- ---- a test

pub tested_then : {A : Type 0} (b : Bool) (fault : List ℕ → Fault) (S : List ℕ → A → Type 0) (read : List ℕ → Result (A × List ℕ) Fault) → Reads S read → Reads (Tested b S) (λ bytes. tested b (fault bytes) >>= λ _. read bytes)
tested_then true fault S read p = record {
  takes = λ bytes x fits e. let t = p.takes bytes x fits e in record { text = t.text; parts = t.parts; spelled = (refl, t.spelled); rest_fits = t.rest_fits };
  again = λ text rest x s. p.again text rest x s.1;
}
tested_then false fault S read p = record {
  takes = λ bytes x fits e. absurd cc;
  again = λ text rest x s. absurd (let e = s.0 in cc);
}

-- ---- the same grammar in other words

pub reads_as : {A : Type 0} (S T : List ℕ → A → Type 0) (read : List ℕ → Result (A × List ℕ) Fault) → ((text : List ℕ) (x : A) → S text x → T text x) → ((text : List ℕ) (x : A) → T text x → S text x) → Reads S read → Reads T read
reads_as S T read to from p = record {
  takes = λ bytes x fits e. let t = p.takes bytes x fits e in record { text = t.text; parts = t.parts; spelled = to t.text x.0 t.spelled; rest_fits = t.rest_fits };
  again = λ text rest x s. p.again text rest x (from text x s);
}

-- ---- numbers

pub record IsWide (w : Width) (limit : ℕ) : Type 0 where
  pub len : (n : ℕ) → length (to_be_bytes w n) ≡ byte_len w
  pub back : (bytes : List ℕ) → length bytes ≡ byte_len w → IsBytes bytes → to_be_bytes w (from_be_bytes w bytes) ≡ bytes
  pub again : (n : ℕ) → n < limit → from_be_bytes w (to_be_bytes w n) ≡ n
  pub below : (bytes : List ℕ) → IsBytes bytes → from_be_bytes w bytes < limit

byte_back : (bytes : List ℕ) → length bytes ≡ 1 → IsBytes bytes → to_be_bytes w8 (from_be_bytes w8 bytes) ≡ bytes
byte_back [] len fits = absurd (omega arith)
byte_back (b ∷ []) len fits = let lt : b < 256 = fits 0 in grind arith
byte_back (b ∷ c ∷ bytes) len fits = absurd (omega arith)

byte_again : (n : ℕ) → n < 2 ^ 8 → from_be_bytes w8 (to_be_bytes w8 n) ≡ n
byte_again n lt = grind arith

byte_below : (bytes : List ℕ) → IsBytes bytes → from_be_bytes w8 bytes < 2 ^ 8
byte_below bytes fits = omega (arith, fits 0)

pub wide8 : IsWide w8 (2 ^ 8)
wide8 = record {
  len = λ n. refl;
  back = λ bytes len fits. byte_back bytes len fits;
  again = λ n lt. byte_again n lt;
  below = λ bytes fits. byte_below bytes fits;
}

pub wide16 : IsWide w16 (2 ^ 16)
wide16 = record {
  len = λ n. refl;
  back = λ bytes len fits. be_bytes_2 bytes _ len fits refl;
  again = λ n lt. from_be_bytes-to_be_bytes_2 n lt;
  below = λ bytes fits. omega (arith, fits 0, fits 1);
}

pub wide32 : IsWide w32 (2 ^ 32)
wide32 = record {
  len = λ n. refl;
  back = λ bytes len fits. be_bytes_4 bytes _ len fits refl;
  again = λ n lt. from_be_bytes-to_be_bytes_4 n lt;
  below = λ bytes fits. omega (arith, fits 0, fits 1, fits 2, fits 3);
}

pub wide64 : IsWide w64 (2 ^ 64)
wide64 = record {
  len = λ n. refl;
  back = λ bytes len fits. be_bytes_8 bytes _ len fits refl;
  again = λ n lt. from_be_bytes-to_be_bytes_8 n lt;
  below = λ bytes fits. omega (arith, fits 0, fits 1, fits 2, fits 3, fits 4, fits 5, fits 6, fits 7);
}

pub reads_number : (w : Width) (limit : ℕ) (fault : List ℕ → Fault) → IsWide w limit → Reads (Number w limit) (λ bytes. number_or (fault bytes) w bytes)
reads_number w limit fault wide = record {
  takes = λ bytes x fits e.
      let g = guard_ok (ltb (length bytes) (byte_len w)) (fault bytes) (from_be_bytes w (take (byte_len w) bytes), drop (byte_len w) bytes) x e in
      let long : byte_len w ≤ length bytes = ltb-false _ _ g.0 in
      let made : Taken (Number w limit) bytes (from_be_bytes w (take (byte_len w) bytes), drop (byte_len w) bytes) = record {
        text = take (byte_len w) bytes;
        parts = sym (take-append-drop (byte_len w) bytes);
        spelled = (sym (wide.back (take (byte_len w) bytes) (omega (arith, length-take (byte_len w) bytes)) (IsBytes-take (byte_len w) bytes fits)), wide.below (take (byte_len w) bytes) (IsBytes-take (byte_len w) bytes fits));
        rest_fits = IsBytes-drop (byte_len w) bytes fits;
      } in
      subst (λ y. Taken (Number w limit) bytes y) g.1 made;
  again = λ text rest n s.
      let len : length text ≡ byte_len w = ap length s.0 ∙ wide.len n in
      let long : ltb (length (text ++ rest)) (byte_len w) ≡ false = le-ltb _ _ (omega (arith, length-append text rest)) in
      let value : from_be_bytes w text ≡ n = ap (λ t. from_be_bytes w t) s.0 ∙ wide.again n s.1 in
      rw (long, take_at text rest (byte_len w) len, drop_at text rest (byte_len w) len, value) refl;
}

-- ---- runs of bytes

pub reads_run : (n : ℕ) (fault : List ℕ → Fault) → Reads (Run n) (λ bytes. run_or (fault bytes) n bytes)
reads_run n fault = record {
  takes = λ bytes x fits e.
      let g = guard_ok (ltb (length bytes) n) (fault bytes) (take n bytes, drop n bytes) x e in
      let long : n ≤ length bytes = ltb-false _ _ g.0 in
      let made : Taken (Run n) bytes (take n bytes, drop n bytes) = record {
        text = take n bytes;
        parts = sym (take-append-drop n bytes);
        spelled = (refl, omega (arith, length-take n bytes), IsBytes-take n bytes fits);
        rest_fits = IsBytes-drop n bytes fits;
      } in
      subst (λ y. Taken (Run n) bytes y) g.1 made;
  again = λ text rest x s.
      let len : length text ≡ n = ap length s.0 ∙ s.1 in
      let long : ltb (length (text ++ rest)) n ≡ false = le-ltb _ _ (omega (arith, length-append text rest)) in
      rw (long, take_at text rest n len, drop_at text rest n len, s.0) refl;
}

-- ---- as many items as a count says

pub counted_takes : {A : Type 0} (S : List A → ℕ → List ℕ → A → Type 0) (step : List A → ℕ → List ℕ → Result (A × List ℕ) Fault) → ((front : List A) (n : ℕ) → Reads (S front n) (step front n))
    → (n : ℕ) (front : List A) (bytes : List ℕ) (y : List A × List ℕ) → IsBytes bytes → counted step front n bytes ≡ Ok y → Taken (Counted S front n) bytes y
unfolding counted
counted_takes S step p zero front bytes y fits e = subst (λ z. Taken (Counted S front 0) bytes z) (ok_is (front, bytes) y e) (record { text = []; parts = refl; spelled = ([], sym (append-nil front), refl, refl); rest_fits = fits })
counted_takes S step p (suc n) front bytes y fits e =
    let a = bind_ok (step front n bytes) (λ x. counted step (front ++ x.0 ∷ []) n x.1) y e in
    let t = (p front n).takes bytes a.0 fits a.1 in
    let u = counted_takes S step p n (front ++ a.0.0 ∷ []) a.0.1 y t.rest_fits a.2 in
    let xs = u.spelled.0 in
    record {
      text = t.text ++ u.text;
      parts = t.parts ∙ ap (λ (r : List ℕ). t.text ++ r) u.parts ∙ sym (append_assoc t.text u.text y.1);
      spelled = (
        a.0.0 ∷ xs,
        u.spelled.1 ∙ append_assoc front (a.0.0 ∷ []) xs,
        ap suc u.spelled.2,
        (t.text, u.text, refl, subst (λ k. S front k t.text a.0.0) (sym u.spelled.2) t.spelled, u.spelled.3),
      );
      rest_fits = u.rest_fits;
    }

pub counted_again : {A : Type 0} (S : List A → ℕ → List ℕ → A → Type 0) (step : List A → ℕ → List ℕ → Result (A × List ℕ) Fault) → ((front : List A) (n : ℕ) → Reads (S front n) (step front n))
    → (xs : List A) (front : List A) (text rest : List ℕ) → Joined S front text xs → counted step front (length xs) (text ++ rest) ≡ Ok (front ++ xs, rest)
unfolding counted
counted_again S step p [] front text rest s = rw (s, append-nil) refl
counted_again S step p (x ∷ xs) front text rest (one, more, e, s, others) =
    let whole : text ++ rest ≡ one ++ (more ++ rest) = ap (λ b. b ++ rest) e ∙ append_assoc one more rest in
    ap (λ r. r >>= λ x. counted step (front ++ x.0 ∷ []) (length xs) x.1) (ap (step front (length xs)) whole ∙ (p front (length xs)).again one (more ++ rest) x s)
    ∙ counted_again S step p xs (front ++ x ∷ []) more rest others ∙ ap (λ zs. Ok (zs, rest)) (append_assoc front (x ∷ []) xs)

pub reads_counted : {A : Type 0} (S : List A → ℕ → List ℕ → A → Type 0) (step : List A → ℕ → List ℕ → Result (A × List ℕ) Fault) → ((front : List A) (n : ℕ) → Reads (S front n) (step front n))
    → (n : ℕ) (front : List A) → Reads (Counted S front n) (λ bytes. counted step front n bytes)
reads_counted S step p n front = record {
  takes = counted_takes S step p n front;
  again = λ text rest ys (xs, e, len, s). ap (λ k. counted step front k (text ++ rest)) (sym len) ∙ counted_again S step p xs front text rest s ∙ ap (λ zs. Ok (zs, rest)) (sym e);
}

-- ---- a state by steps

pub folded_takes : {A : Type 0} (T : A → List ℕ → A → Type 0) (step : A → List ℕ → Result (A × List ℕ) Fault) → ((a : A) → Reads (T a) (step a))
    → (n : ℕ) (a : A) (bytes : List ℕ) (y : A × List ℕ) → IsBytes bytes → folded step a n bytes ≡ Ok y → Taken (Chain T a n) bytes y
unfolding folded
folded_takes T step p zero a bytes y fits e = subst (λ z. Taken (Chain T a 0) bytes z) (ok_is (a, bytes) y e) (record { text = []; parts = refl; spelled = (refl, refl); rest_fits = fits })
folded_takes T step p (suc n) a bytes y fits e =
    let b = bind_ok (step a bytes) (λ x. folded step x.0 n x.1) y e in
    let t = (p a).takes bytes b.0 fits b.1 in
    let u = folded_takes T step p n b.0.0 b.0.1 y t.rest_fits b.2 in
    record { text = t.text ++ u.text; parts = t.parts ∙ ap (λ (r : List ℕ). t.text ++ r) u.parts ∙ sym (append_assoc t.text u.text y.1); spelled = (b.0.0, t.text, u.text, refl, t.spelled, u.spelled); rest_fits = u.rest_fits }

pub folded_again : {A : Type 0} (T : A → List ℕ → A → Type 0) (step : A → List ℕ → Result (A × List ℕ) Fault) → ((a : A) → Reads (T a) (step a))
    → (n : ℕ) (a : A) (text rest : List ℕ) (y : A) → Chain T a n text y → folded step a n (text ++ rest) ≡ Ok (y, rest)
unfolding folded
folded_again T step p zero a text rest y s = rw (s.0, s.1) refl
folded_again T step p (suc n) a text rest y (mid, one, more, e, s, others) =
    let whole : text ++ rest ≡ one ++ (more ++ rest) = ap (λ b. b ++ rest) e ∙ append_assoc one more rest in
    ap (λ r. r >>= λ x. folded step x.0 n x.1) (ap (step a) whole ∙ (p a).again one (more ++ rest) mid s) ∙ folded_again T step p n mid more rest y others

pub reads_folded : {A : Type 0} (T : A → List ℕ → A → Type 0) (step : A → List ℕ → Result (A × List ℕ) Fault) → ((a : A) → Reads (T a) (step a)) → (n : ℕ) (a : A) → Reads (Chain T a n) (λ bytes. folded step a n bytes)
reads_folded T step p n a = record { takes = folded_takes T step p n a; again = folded_again T step p n a }

-- ---- a length, and content of that length

pub tested_ok : {A : Type 0} (b : Bool) (d : Fault) (r : Result A Fault) (y : A) → (tested b d >>= λ _. r) ≡ Ok y → (b ≡ true) × (r ≡ Ok y)
tested_ok true d r y e = (refl, e)
tested_ok false d r y e = absurd cc

again_at : (fault : Fault) (n : ℕ) (rest : List ℕ) → n < 2 ^ 32 → number_or fault w32 (to_be_bytes w32 n ++ rest) ≡ Ok (n, rest)
again_at fault n rest lt = (reads_number w32 (2 ^ 32) (λ _. fault) wide32).again (to_be_bytes w32 n) rest n (refl, lt)

pub reads_sized : {A : Type 0} (S : List ℕ → A → Type 0) (read : List ℕ → Result (A × List ℕ) Fault) (short wrong : List ℕ → Fault) → Reads S read
    → Reads (Sized S) (λ bytes. number_or (short bytes) w32 bytes >>= λ len. read len.1 >>= λ x. tested (eqb (length len.1 - length x.1) len.0) (wrong bytes) >>= λ _. Ok x)
reads_sized S read short wrong p = record {
  takes = λ bytes y fits e.
      let num = reads_number w32 (2 ^ 32) short wide32 in
      let a = bind_ok (number_or (short bytes) w32 bytes) (λ len. read len.1 >>= λ x. tested (eqb (length len.1 - length x.1) len.0) (wrong bytes) >>= λ _. Ok x) y e in
      let b = bind_ok (read a.0.1) (λ x. tested (eqb (length a.0.1 - length x.1) a.0.0) (wrong bytes) >>= λ _. Ok x) y a.2 in
      let c = tested_ok (eqb (length a.0.1 - length b.0.1) a.0.0) (wrong bytes) (Ok b.0) y b.2 in
      let t = num.takes bytes a.0 fits a.1 in
      let u = p.takes a.0.1 b.0 t.rest_fits b.1 in
      let len : length u.text ≡ a.0.0 = omega (arith, ap length u.parts, length-append u.text b.0.1, eqb-true _ _ c.0) in
      let made : Taken (Sized S) bytes b.0 = record {
        text = t.text ++ u.text;
        parts = t.parts ∙ ap (λ (r : List ℕ). t.text ++ r) u.parts ∙ sym (append_assoc t.text u.text b.0.1);
        spelled = (u.text, ap (λ o. o ++ u.text) (t.spelled.0 ∙ ap (to_be_bytes w32) (sym len)), subst (λ k. k < 2 ^ 32) (sym len) t.spelled.1, u.spelled);
        rest_fits = u.rest_fits;
      } in
      subst (λ z. Taken (Sized S) bytes z) (ok_is b.0 y c.1) made;
  again = λ text rest x (content, e, lt, s).
      let num = reads_number w32 (2 ^ 32) short wide32 in
      let whole : text ++ rest ≡ to_be_bytes w32 (length content) ++ (content ++ rest) = ap (λ b. b ++ rest) e ∙ append_assoc (to_be_bytes w32 (length content)) content rest in
      let first : number_or (short (text ++ rest)) w32 (text ++ rest) ≡ Ok (length content, content ++ rest) = ap (λ b. number_or (short (text ++ rest)) w32 b) whole ∙ again_at (short (text ++ rest)) (length content) (content ++ rest) lt in
      let len : length (content ++ rest) - length rest ≡ length content = omega (arith, length-append content rest) in
      let test : eqb (length (content ++ rest) - length rest) (length content) ≡ true = eq-eqb _ _ len in
      ap (λ r. r >>= λ len. read len.1 >>= λ x. tested (eqb (length len.1 - length x.1) len.0) (wrong (text ++ rest)) >>= λ _. Ok x) first
      ∙ ap (λ r. r >>= λ x. tested (eqb (length (content ++ rest) - length x.1) (length content)) (wrong (text ++ rest)) >>= λ _. Ok x) (p.again content rest x s)
      ∙ ap (λ b. tested b (wrong (text ++ rest)) >>= λ _. Ok (x, rest)) test;
}

-- ---- cases of tests

pub picked : {A : Type 0} {X : Type 0} (b : Bool) (r q y : Result A Fault) → cond b r q ≡ y → ((b ≡ true) → r ≡ y → X) → ((b ≡ false) → q ≡ y → X) → X
picked true r q y e first second = first refl e
picked false r q y e first second = second refl e

pub chosen : {X : Type 0} (b : Bool) (S T : Type 0) → cond b S T → ((b ≡ true) → S → X) → ((b ≡ false) → T → X) → X
chosen true S T h first second = first refl h
chosen false S T h first second = second refl h

-- ---- numbers of one, two, four and eight bytes

pub reads_8 : Reads (Number w8 (2 ^ 8)) (λ bytes. number_at w8 bytes)
reads_8 = reads_number w8 (2 ^ 8) (λ bytes. Truncated (length bytes)) wide8

pub reads_16 : Reads (Number w16 (2 ^ 16)) (λ bytes. number_at w16 bytes)
reads_16 = reads_number w16 (2 ^ 16) (λ bytes. Truncated (length bytes)) wide16

pub reads_32 : Reads (Number w32 (2 ^ 32)) (λ bytes. number_at w32 bytes)
reads_32 = reads_number w32 (2 ^ 32) (λ bytes. Truncated (length bytes)) wide32

pub reads_64 : Reads (Number w64 (2 ^ 64)) (λ bytes. number_at w64 bytes)
reads_64 = reads_number w64 (2 ^ 64) (λ bytes. Truncated (length bytes)) wide64

-- ---- a run and what follows

-- a run is bytes, so what follows may ask for that; it may look at all of the bytes for the places of its faults
pub reads_run_then : {B : Type 0} (n : ℕ) (T : List ℕ → List ℕ → B → Type 0) (next : List ℕ → List ℕ → List ℕ → Result (B × List ℕ) Fault) → ((all run : List ℕ) → IsBytes run → Reads (T run) (next all run))
    → Reads (Then (Run n) T) (λ bytes. run_at n bytes >>= λ x. next bytes x.0 x.1)
reads_run_then n T next q = record {
  takes = λ bytes y fits e.
      let p = reads_run n (λ bytes. Truncated (length bytes)) in
      let a = bind_ok (run_at n bytes) (λ x. next bytes x.0 x.1) y e in
      let t = p.takes bytes a.0 fits a.1 in
      let u = (q bytes a.0.0 t.spelled.2).takes a.0.1 y t.rest_fits a.2 in
      record { text = t.text ++ u.text; parts = t.parts ∙ ap (λ (r : List ℕ). t.text ++ r) u.parts ∙ sym (append_assoc t.text u.text y.1); spelled = (a.0.0, t.text, u.text, refl, t.spelled, u.spelled); rest_fits = u.rest_fits };
  again = λ text rest y (x, one, more, e, s, t).
      let p = reads_run n (λ bytes. Truncated (length bytes)) in
      let whole : text ++ rest ≡ one ++ (more ++ rest) = ap (λ b. b ++ rest) e ∙ append_assoc one more rest in
      ap (λ r. r >>= λ x. next (text ++ rest) x.0 x.1) (ap (run_at n) whole ∙ p.again one (more ++ rest) x s) ∙ (q (text ++ rest) x s.2).again more rest y t;
}

-- ---- signed numbers

-- a signed number in a constructor
pub reads_signed_as : {B : Type 0} (w : Width) (made : ℤ → B) → IsWide w (2 ^ bits w) → Reads (Mapped made (Signed w)) (λ bytes. number_at w bytes >>= λ n. Ok (made (cast_signed w n.0), n.1))
reads_signed_as w made wide = reads_as (Mapped (λ n. made (cast_signed w n)) (Number w (2 ^ bits w))) (Mapped made (Signed w)) _
    (λ text y (n, s, is). (cast_signed w n, (s.0 ∙ ap (to_be_bytes w) (sym (of_z-to_z w n s.1)), read_sfits w n), is))
    (λ text y (z, (e, fits), is). (cast_unsigned w z, (e, (of_z_fits w z fits).fits), is ∙ ap made (sym (to_z-of_z w z fits))))
    (reads_mapped (λ n. made (cast_signed w n)) (Number w (2 ^ bits w)) _ (reads_number w (2 ^ bits w) (λ bytes. Truncated (length bytes)) wide))
