-- The part of the law of order that speaks of tests alone.
use Rattle.std.proofs.Common.{◌≡◌, ◌⊎◌, ℕ, zero, suc, ◌<◌, ◌≤◌, true, false, cond, List, [], ◌∷◌, refl, sym, ◌∙◌, ap, subst, inl, inr, arith, Option, Some, None}
use Rattle.std.proofs.lemmas.Bool.{cases_eq, cases_Bool, cases_order, cases_lt}
use Rattle.jvm_model.specs.declared.values.Location.{Location}
use Rattle.order_law.specs.declared.edges.{Edge.Edge, EdgeKind.TheVariants.Raw, EdgeKind.TheVariants.Waw, EdgeKind.TheVariants.War}
use Rattle.order_law.specs.Conflicts.{Tests, Member, NoneBetween, IsRecord, Before, edge, chain, Fits, History, down, last}

pub last_at_true : (W : Tests) (t : ℕ) (D : List ℕ) (L : Location) → W t L ≡ true → last W (t ∷ D) L ≡ Some t
last_at_true W t D L b = rw b

pub last_at_false : (W : Tests) (t : ℕ) (D : List ℕ) (L : Location) → W t L ≡ false → last W (t ∷ D) L ≡ last W D L
last_at_false W t D L b = rw b

-- the last writer of a history
pub last_is : (W : Tests) (D : List ℕ) (L : Location) (u : ℕ) → last W D L ≡ Some u → Member u D × (W u L ≡ true)
last_is W [] L u e = absurd (cc)
last_is W (t ∷ D) L u e = elim (cases_Bool (W t L)) [
  | inl b ↦ let g : u ≡ t = (let h : cond (W t L) (Some t) (last W D L) ≡ Some t = rw b in cc) in (inl g, subst (λ (x : ℕ). W x L ≡ true) (sym g) b)
  | inr b ↦ let h : cond (W t L) (Some t) (last W D L) ≡ last W D L = rw b in let r = last_is W D L u (sym h ∙ e) in (inr r.0, r.1)
]

pub last_none : (W : Tests) (D : List ℕ) (L : Location) (u : ℕ) → last W D L ≡ None → Member u D → W u L ≡ false
last_none W [] L u e i = absurd i
last_none W (t ∷ D) L u e i = elim (cases_Bool (W t L)) [
  | inl b ↦ absurd (let h : cond (W t L) (Some t) (last W D L) ≡ Some t = rw b in cc)
  | inr b ↦ elim i [
    | inl g ↦ subst (λ (x : ℕ). W x L ≡ false) (sym g) b
    | inr j ↦ last_none W D L u (let h : cond (W t L) (Some t) (last W D L) ≡ last W D L = rw b in sym h ∙ e) j
  ]
]

wider : (W : Tests) (u t : ℕ) (L : Location) → W t L ≡ false → NoneBetween W u t L → NoneBetween W u (suc t) L
wider W u t L b f x lo hi = elim (cases_eq x t) [ inl e ↦ subst (λ (y : ℕ). W y L ≡ false) (sym e) b | inr ne ↦ f x lo (omega arith) ]

-- between two places there is a last writer, or none
pub between : (W : Tests) (u t : ℕ) (L : Location) → NoneBetween W u t L ⊎ ((y : ℕ) × (u < y) × (y < t) × (W y L ≡ true) × NoneBetween W y t L)
between W u zero L = inl (λ x lo hi. absurd (omega arith))
between W u (suc t) L = elim (cases_lt u t) [
  | inr h ↦ inl (λ x lo hi. absurd (omega arith))
  | inl h ↦ elim (cases_Bool (W t L)) [
    | inl b ↦ inr (t, h, omega arith, b, λ x lo hi. absurd (omega arith))
    | inr b ↦ elim (between W u t L) [
      | inl f ↦ inl (wider W u t L b f)
      | inr y ↦ inr (y.0, y.1, omega arith, y.3, wider W y.0 t L b y.4)
    ]
  ]
]

-- the last writer before t in suite order
last_down : (W : Tests) (t : ℕ) (L : Location) (u : ℕ) → last W (down t) L ≡ Some u → (0 < u) × (u < t) × (W u L ≡ true) × NoneBetween W u t L
last_down W (suc (suc t)) L u e = elim (cases_Bool (W (suc t) L)) [
  | inl b ↦ let g : u ≡ suc t = (let h : cond (W (suc t) L) (Some (suc t)) (last W (down (suc t)) L) ≡ Some (suc t) = rw b in cc) in
      (omega arith, omega arith, subst (λ (x : ℕ). W x L ≡ true) (sym g) b, λ x lo hi. absurd (omega arith))
  | inr b ↦ let h : cond (W (suc t) L) (Some (suc t)) (last W (down (suc t)) L) ≡ last W (down (suc t)) L = rw b in
      let r = last_down W (suc t) L u (sym h ∙ e) in (r.0, omega arith, r.2, wider W u (suc t) L b r.3)
]
last_down W _ L u e = absurd (cc)

last_down_none : (W : Tests) (t : ℕ) (L : Location) → last W (down t) L ≡ None → (x : ℕ) → 0 < x → x < t → W x L ≡ false
last_down_none W (suc (suc t)) L e x o h = elim (cases_Bool (W (suc t) L)) [
  | inl b ↦ absurd (let h : cond (W (suc t) L) (Some (suc t)) (last W (down (suc t)) L) ≡ Some (suc t) = rw b in cc)
  | inr b ↦ let g : cond (W (suc t) L) (Some (suc t)) (last W (down (suc t)) L) ≡ last W (down (suc t)) L = rw b in
      elim (cases_eq x (suc t)) [ inl q ↦ subst (λ (y : ℕ). W y L ≡ false) (sym q) b | inr ne ↦ last_down_none W (suc t) L (sym g ∙ e) x o (omega arith) ]
]
last_down_none W _ L e x o h = absurd (omega arith)

-- in a lawful history the last writer isn't before another writer
latest : (W : Tests) (R : List Edge) (D : List ℕ) (L : Location) (x u : ℕ) → History R D → last W D L ≡ Some x → Member u D → W u L ≡ true → (x ≡ u) ⊎ (Before R x u → ⊥)
latest W R [] L x u hs e i wu = absurd i
latest W R (t ∷ D) L x u hs e i wu = elim (cases_Bool (W t L)) [
  | inl b ↦ let g : x ≡ t = (let h : cond (W t L) (Some t) (last W D L) ≡ Some t = rw b in cc) in
      elim i [ inl j ↦ inl (g ∙ sym j) | inr j ↦ inr (λ bf. hs.0.in_order u j (subst (λ (y : ℕ). Before R y u) g bf)) ]
  | inr b ↦ let h : cond (W t L) (Some t) (last W D L) ≡ last W D L = rw b in
      elim i [
        | inl j ↦ absurd (let k : W t L ≡ true = subst (λ (y : ℕ). W y L ≡ true) j wu in cc)
        | inr j ↦ latest W R D L x u hs.1 (sym h ∙ e) j wu
      ]
]

module _ (W E : Tests) (n : ℕ) (R : List Edge) (is_record : IsRecord W E n R) where
  -- two writers of a location
  waw_before : (k x u : ℕ) (L : Location) → u ≤ k → 0 < x → x < u → u ≤ n → W x L ≡ true → W u L ≡ true → Before R x u
  waw_before zero x u L f o h b wx wu = absurd (omega arith)
  waw_before (suc k) x u L f o h b wx wu = elim (between W x u L) [
    | inl none ↦ edge Waw ((is_record Waw x u).1 (o, b, L, (h, wx, wu, none)))
    | inr y ↦ chain (waw_before k x y.0 L (omega arith) o y.1 (omega arith) wx y.3) (edge Waw ((is_record Waw y.0 u).1 (omega arith, b, L, (y.2, y.3, wu, y.4))))
  ]

  -- an exposed read and a later writer
  war_before : (k t x : ℕ) (L : Location) → x ≤ k → 0 < t → t < x → x ≤ n → E t L ≡ true → W x L ≡ true → Before R t x
  war_before zero t x L f o h b e wx = absurd (omega arith)
  war_before (suc k) t x L f o h b e wx = elim (cases_Bool (W t L)) [
    | inl wt ↦ waw_before (suc k) t x L f o h b wt wx
    | inr wt ↦ elim (between W t x L) [
      | inl none ↦ edge War ((is_record War t x).1 (o, b, L, (h, wx, e, wt, none)))
      | inr y ↦ chain (war_before k t y.0 L (omega arith) o y.1 (omega arith) e y.3) (edge Waw ((is_record Waw y.0 x).1 (omega arith, b, L, (y.2, y.3, wx, y.4))))
    ]
  ]

  -- in a lawful history what t reads was last written by the test that wrote it last in suite order
  module _ (D : List ℕ) (t : ℕ) (L : Location) (fits : Fits R D t) (history : History R D) (high : 0 < t) (low : t ≤ n) (all_low : (x : ℕ) → Member x D → (0 < x) × (x ≤ n)) (reads : E t L ≡ true) where
    not_later : (x : ℕ) → last W D L ≡ Some x → x < t
    not_later x e = let i = last_is W D L x e in
        elim (cases_order x t) [
          | inl q ↦ absurd (fits.is_new (subst (λ (y : ℕ). Member y D) q i.0))
          | inr o ↦ elim o [ inl h ↦ h | inr h ↦ absurd (fits.in_order x i.0 (war_before x t x L (omega arith) high h (all_low x i.0).1 reads i.1)) ]
        ]

    source_in : (u : ℕ) → last W (down t) L ≡ Some u → Member u D
    source_in u e = let r = last_down W t L u e in fits.closed u ((is_record Raw u t).1 (r.0, low, L, (r.1, reads, r.2, r.3)))

    both : (o o' : Option ℕ) → last W D L ≡ o → last W (down t) L ≡ o' → o ≡ o'
    both None None e e' = refl
    both None (Some u) e e' = absurd (let i = source_in u e' in let a = last_none W D L u e i in let b = (last_down W t L u e').2 in cc)
    both (Some x) None e e' = absurd (let i = last_is W D L x e in let a = last_down_none W t L e' x (all_low x i.0).0 (not_later x e) in let b = i.1 in cc)
    both (Some x) (Some u) e e' = ap Some (
        let i = last_is W D L x e in
        let r = last_down W t L u e' in
        let pos = (all_low x i.0).0 in
        elim (latest W R D L x u history e (source_in u e') r.2) [
          | inl q ↦ q
          | inr never ↦ elim (cases_order x u) [
            | inl q ↦ q
            | inr o ↦ elim o [
              | inl h ↦ absurd (never (waw_before u x u L (omega arith) pos h (let k = r.1 in omega arith) i.1 r.2))
              | inr h ↦ absurd (let a = r.3 x h (not_later x e) in let b = i.1 in cc)
            ]
          ]
        ])

    pub same_source : last W D L ≡ last W (down t) L
    same_source = both (last W D L) (last W (down t) L) refl refl
