-- What a reader gave, piece by piece.
use Rattle.std.proofs.Common.{◌≡◌, ◌∙◌, ℕ, ◌+◌, ◌≤◌, List, [], ◌++◌, Option, Some, None, sym, ap, subst, take, drop, length, append_assoc, append-nil, length-take-le, length-drop, arith}
use Rattle.std.proofs.lemmas.List.{take_at, take_all, take-append-le, drop_at, drop-drop, drop_all}
use Rattle.std.proofs.Math.Seq.{take-add}
use Rattle.std.specs.Io.KnownBytes.{Consumes}
use borrow.Rule.Slice.PartMut.{put_mid, post_of}

-- one piece, and another behind it
taken_on : (a b c : Option (List ℕ)) (first next : List ℕ) → Consumes a b first → Consumes b c next → Consumes a c (first ++ next)
taken_on None b c first next p q = tt
taken_on (Some x) None c first next p q = absurd p
taken_on (Some x) (Some y) None first next p q = absurd q
taken_on (Some x) (Some y) (Some z) first next p q = p ∙ ap (λ l. first ++ l) q ∙ sym (append_assoc first next z)

join : (xs ys zs : List ℕ) (m n : ℕ) → length xs ≡ m → n ≤ length ys → take (m + n) (xs ++ (ys ++ zs)) ≡ xs ++ take n ys
join xs ys zs m n l h =
    take-add m n (xs ++ (ys ++ zs))
    ∙ ap (λ f. f ++ take n (drop m (xs ++ (ys ++ zs)))) (take_at xs (ys ++ zs) m l)
    ∙ ap (λ r. xs ++ take n r) (drop_at xs (ys ++ zs) m l)
    ∙ ap (λ t. xs ++ t) (take-append-le n ys zs h)

-- the front of a buffer into which a piece was put
front_more : (buf piece : List ℕ) (done n k : ℕ) → done ≤ length buf → n ≤ length piece → take done buf ++ take n piece ≡ take (done + n) (put_mid done k buf piece)
front_more buf piece done n k l h = sym (join (take done buf) piece (post_of done k buf) done n (length-take-le done buf l) h)

pub taken_more : (a b c : Option (List ℕ)) (buf piece part : List ℕ) (done n k : ℕ) → done ≤ length buf → n ≤ length part → length piece ≡ length part
    → Consumes a b (take done buf) → Consumes b c (take n piece) → Consumes a c (take (done + n) (put_mid done k buf piece))
taken_more a b c buf piece part done n k l h e p q =
    subst (Consumes a c) (front_more buf piece done n k l (omega (arith, h, e))) (taken_on a b c (take done buf) (take n piece) p q)

-- nothing stands behind the part up to the end
no_rest : (buf : List ℕ) (done k : ℕ) → length buf ≤ done + k → post_of done k buf ≡ []
no_rest buf done k l = drop-drop k done buf ∙ drop_all (done + k) buf l

whole_rest : (buf : List ℕ) (done k : ℕ) → length buf ≤ done + k → take k (drop done buf) ≡ drop done buf
whole_rest buf done k l = take_all k (drop done buf) (omega (arith, l, length-drop done buf))

-- behind a piece that was put up to the end, the buffer is as it was
pub left_behind : (buf piece old : List ℕ) (done n k : ℕ) → done ≤ length buf → length buf ≤ done + k → drop n piece ≡ drop n (take k (drop done buf))
    → drop done buf ≡ drop done old → drop (done + n) (put_mid done k buf piece) ≡ drop (done + n) old
left_behind buf piece old done n k l all kept before =
    sym (drop-drop n done (put_mid done k buf piece))
    ∙ ap (drop n) (drop_at (take done buf) (piece ++ post_of done k buf) done (length-take-le done buf l))
    ∙ ap (λ r. drop n (piece ++ r)) (no_rest buf done k all) ∙ ap (drop n) (append-nil piece)
    ∙ kept ∙ ap (drop n) (whole_rest buf done k all) ∙ ap (drop n) before ∙ drop-drop n done old
