-- The edges of a run and what is shown of them, one test after another; and how many objects each test made.
use Rattle.std.proofs.Common.{◌≡◌, ◌+◌, ◌-◌, ◌<◌, ◌≤◌, ℕ, zero, suc, Bool, true, List, [], ◌∷◌, ◌++◌, length, map, flat_map, slice_get, get_or, refl, sym, ◌∙◌, ap, subst, arith, Some}
use Rattle.std.specs.List.{range_with_len}
use Rattle.std.proofs.lemmas.List.{append_assoc, append-nil, map-append}
use Rattle.jvm_model.specs.declared.program.Program.{Program}
use Rattle.jvm_model.specs.declared.values.Location.{Location}
use Rattle.order_law.specs.declared.edges.Edge.{Edge}
use Rattle.order_law.specs.declared.records.Shown.{Shown}
use Rattle.order_law.specs.{Histories.Touches, RecordForm.is_place_text, Pairing.PairedList, Walk.IsShownIn}
use Rattle.std.proofs.lemmas.List.Folds.{list_all-append}
use Rattle.order_law.proofs.Pairs.{list-append}
use Rattle.access_tags.specs.declared.ended.Ended.{Ended}
use Rattle.access_tags.specs.{Followed.IsEnded, AreNames.AreNames, Places.shown_rows, Ran.HaveWalks}
use Rattle.access_tags.specs.FoundIn.{added, are_printed, edges_up_to}
use Rattle.access_tags.specs.Rows.{edge_by, shown_by, with_places, edges_at}
use Rattle.access_tags.proofs.Placed.{test_edges, test_shown}

range_suc : (a n : ℕ) → range_with_len a (suc n) ≡ range_with_len a n ++ (a + n) ∷ []
range_suc a zero = let e : a ≡ a + 0 = omega arith in ap (λ (i : ℕ). i ∷ []) e
range_suc a (suc n) = let e : (a + 1) + n ≡ a + suc n = omega arith in ap (λ (xs : List ℕ). a ∷ xs) (range_suc (a + 1) n ∙ ap (λ (i : ℕ). range_with_len (a + 1) n ++ i ∷ []) e)

range_more : (n : ℕ) → range_with_len 1 (n + 1) ≡ range_with_len 1 n ++ (n + 1) ∷ []
range_more n = let e : n + 1 ≡ suc n = omega arith in let d : 1 + n ≡ n + 1 = omega arith in ap (λ (i : ℕ). range_with_len 1 i) e ∙ (range_suc 1 n ∙ ap (λ (i : ℕ). range_with_len 1 n ++ i ∷ []) d)

flat_push : (f : ℕ → List Edge) (xs : List ℕ) (x : ℕ) → flat_map f (xs ++ x ∷ []) ≡ flat_map f xs ++ f x
flat_push f [] x = append-nil (f x)
flat_push f (y ∷ xs) x = ap (λ (es : List Edge). f y ++ es) (flat_push f xs x) ∙ sym (append_assoc (f y) (flat_map f xs) (f x))

pub added_more : (f : ℕ → ℕ) (n m : ℕ) → m ≡ f (n + 1) - f n → added f (n + 1) ≡ added f n ++ m ∷ []
added_more f n m e = let g : ℕ → ℕ = λ t. f t - f (t - 1) in let z : n + 1 - 1 ≡ n = omega arith in
    ap (λ (xs : List ℕ). map g xs) (range_more n) ∙ (map-append g (range_with_len 1 n) ((n + 1) ∷ []) ∙ ap (λ (i : ℕ). map g (range_with_len 1 n) ++ i ∷ []) (ap (λ (i : ℕ). f (n + 1) - f i) z ∙ sym e))

-- one edge more whose text is in form
pub printed_push : (es ds : List Edge) (e : Edge) → ds ≡ es ++ e ∷ [] → is_place_text e.first ≡ true → are_printed es ≡ true → are_printed ds ≡ true
printed_push es ds e q f h = rw q (list_all-append (λ (d : Edge). is_place_text d.first) es (e ∷ []) ∙ rw h (rw f refl))

-- the entry at a place
pub entry_there : (xs : List Ended) (i : ℕ) (d : Ended) → i < length xs → slice_get xs i ≡ Some (get_or xs i d)
entry_there [] i d h = absurd (omega arith)
entry_there (x ∷ xs) zero d h = refl
entry_there (x ∷ xs) (suc i) d h = entry_there xs i d (omega arith)

module _ (p : Program) (T : Touches) (by : ℕ → ℕ × ℕ) (names : List Location) where
  up_to_more : (n : ℕ) → edges_up_to p T by (n + 1) ≡ edges_up_to p T by n ++ edges_at p T by (n + 1)
  up_to_more n = ap (λ (xs : List ℕ). flat_map (λ t. edges_at p T by t) xs) (range_more n) ∙ flat_push (λ t. edges_at p T by t) (range_with_len 1 n) (n + 1)

  rows_there : {kept : Bool} (t : ℕ) (x : Ended) → IsEnded kept T names t x → map (shown_by p by names t) x.rows ≡ map (with_places T t) (edges_at p T by t)
  rows_there t x e = subst (λ (ns : List Location). map (shown_by p by ns t) x.rows ≡ map (with_places T t) (edges_at p T by t)) (append-nil names) (e.rows p by [])

  edges_there : {kept : Bool} (t : ℕ) (x : Ended) → IsEnded kept T names t x → map (edge_by p by names t) x.rows ≡ edges_at p T by t
  edges_there t x e = test_edges p T by names t x.rows (edges_at p T by t) (rows_there t x e)

  pub edges_more : {kept : Bool} (n : ℕ) (x : Ended) (es ds : List Edge) → IsEnded kept T names (n + 1) x → es ≡ edges_up_to p T by n → ds ≡ es ++ map (edge_by p by names (n + 1)) x.rows → ds ≡ edges_up_to p T by (n + 1)
  edges_more n x es ds e q r = r ∙ (rw q (rw (edges_there (n + 1) x e) (sym (up_to_more n))))

  pub shown_more : (n : ℕ) (x : Ended) (ss us : List Shown) → AreNames names → HaveWalks p T → n + 1 ≤ length p.tests → IsEnded true T names (n + 1) x →
      PairedList (IsShownIn p T by) (edges_up_to p T by n) ss → us ≡ ss ++ shown_rows p by names x.rows x.walks → PairedList (IsShownIn p T by) (edges_up_to p T by (n + 1)) us
  shown_more n x ss us named walks h e q s = rw (up_to_more n) (rw s (list-append q (test_shown p T by names named (n + 1) (omega arith, h) walks x.rows x.walks (rows_there (n + 1) x e) (e.walks refl))))
