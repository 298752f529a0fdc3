-- The bytes of a stream, if they are known, over several calls.
use Rattle.std.proofs.Common.{ℕ, List, [], ◌++◌, Option, Some, None, refl, sym, ◌∙◌, ap, append_assoc, append-nil}
use Rattle.std.specs.Io.KnownBytes.{Consumes, Appends, Keeps}

pub consumes_nothing : (left : Option (List ℕ)) → Consumes left left []
consumes_nothing None = tt
consumes_nothing (Some xs) = refl

pub consumes_both : (a b c : Option (List ℕ)) (xs ys : List ℕ) → Consumes a b xs → Consumes b c ys → Consumes a c (xs ++ ys)
consumes_both None b c xs ys p q = tt
consumes_both (Some ws) None c xs ys p q = absurd p
consumes_both (Some ws) (Some bs) None xs ys p q = absurd q
consumes_both (Some ws) (Some bs) (Some cs) xs ys p q = p ∙ ap (λ rest. xs ++ rest) q ∙ sym (append_assoc xs ys cs)

pub consumes_kept : (a b c : Option (List ℕ)) (xs : List ℕ) → Consumes a b xs → Keeps b c → Consumes a c xs
consumes_kept None b c xs p q = tt
consumes_kept (Some ws) None c xs p q = absurd p
consumes_kept (Some ws) (Some bs) None xs p q = absurd q
consumes_kept (Some ws) (Some bs) (Some cs) xs p q = p ∙ ap (λ rest. xs ++ rest) (sym q)

pub appends_nothing : (known : Option (List ℕ)) → Appends known known []
appends_nothing None = tt
appends_nothing (Some xs) = sym (append-nil xs)

pub appends_both : (a b c : Option (List ℕ)) (x y : List ℕ) → Appends a b x → Appends b c y → Appends a c (x ++ y)
appends_both None b c x y p q = tt
appends_both (Some xs) None c x y p q = absurd p
appends_both (Some xs) (Some ys) None x y p q = absurd q
appends_both (Some xs) (Some ys) (Some zs) x y p q = q ∙ ap (λ v. v ++ y) p ∙ append_assoc xs x y

pub appends_kept : (a b c : Option (List ℕ)) (x : List ℕ) → Appends a b x → Keeps b c → Appends a c x
appends_kept None b c x p q = tt
appends_kept (Some xs) None c x p q = absurd p
appends_kept (Some xs) (Some ys) None x p q = absurd q
appends_kept (Some xs) (Some ys) (Some zs) x p q = q ∙ p
