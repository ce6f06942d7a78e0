-- What a map from texts to numbers has for a text and for an entry.
use Rattle.std.specs.Prelude.{ℕ, List, Option, Some, None}
use Rattle.std.specs.{Option.option_or, Ordering.nat_cmp, Cmp.Lexicographic.slice_cmp, BTreeMap.BTreeMap, BTreeMap.get_by}
use denote.Ref.{Bor}
use Rattle.class_pool.specs.declared.pool.{Entry.Entry, Entry.TheVariants.Utf8}

-- the number that is noted for a text
abbrev pub noted : BTreeMap (Bor (List ℕ)) ℕ → List ℕ → Option ℕ
noted texts text = get_by (λ k. slice_cmp nat_cmp text k.now) texts

-- the number that is noted for an entry's text, or this one where there is none
abbrev pub noted_first : BTreeMap (Bor (List ℕ)) ℕ → Option Entry → ℕ → Option ℕ
noted_first texts (Some (Utf8 units)) i = option_or (noted texts units) (Some i)
noted_first texts _ i = None
