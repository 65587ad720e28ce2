-- Facts of a result that may be an error.
use Rattle.std.proofs.Common.{◌≡◌, refl, OnOk, OnErr, IfOk, IfSome, Option, Some, None}
use Rattle.std.specs.Prelude.{Result, Ok, Err}

pub on_err_both : {A E P Q R : Type 0} (r : Result A E) → OnErr r P → OnErr r Q → (P → Q → R) → OnErr r R
on_err_both (Ok a) p q f = tt
on_err_both (Err e) p q f = f p q

pub on_err_then : {A E P Q : Type 0} (r : Result A E) → OnErr r P → (P → Q) → OnErr r Q
on_err_then (Ok a) p f = tt
on_err_then (Err e) p f = f p

pub on_ok_then : {A E P Q : Type 0} (r : Result A E) → OnOk r P → (P → Q) → OnOk r Q
on_ok_then (Ok a) p f = f p
on_ok_then (Err e) p f = tt

pub if_ok_then : {A E : Type 0} {P Q : A → Type 0} (r : Result A E) → IfOk r P → ((a : A) → P a → Q a) → IfOk r Q
if_ok_then (Ok a) p f = f a p
if_ok_then (Err e) p f = tt

pub in_both : {A E P Q R : Type 0} (r : Result A E) → OnOk r P → OnErr r Q → (P → R) → (Q → R) → R
in_both (Ok a) p q f g = f p
in_both (Err e) p q f g = g q

pub if_ok_both : {A E P : Type 0} {Q R : A → Type 0} (r : Result A E) → OnOk r P → IfOk r Q → ((a : A) → P → Q a → R a) → IfOk r R
if_ok_both (Ok a) p q f = f a p q
if_ok_both (Err e) p q f = tt

-- the same of what may be nothing
pub if_some_then : {A : Type 0} {P Q : A → Type 0} (o : Option A) → IfSome o P → ((x : A) → P x → Q x) → IfSome o Q
if_some_then None h f = h
if_some_then (Some x) h f = f x h

pub in_either : {A : Type 0} {P : A → Type 0} {E R : Type 0} (o : Option A) → IfSome o P → (o ≡ None → E) → ((x : A) → P x → R) → (E → R) → R
in_either None h n f g = g (n refl)
in_either (Some x) h n f g = f x h
