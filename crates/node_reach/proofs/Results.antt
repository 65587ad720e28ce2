-- What follows of the answer of a call.
use Rattle.std.proofs.Common.{Result, Ok, Err, OnOk, OnErr, IfOk}

pub on_ok : {T E : Type 0} (P Q : Type 0) (r : Result T E) → (P → Q) → OnOk r P → OnOk r Q
on_ok P Q (Ok x) f h = f h
on_ok P Q (Err e) f h = tt

pub on_both : {T E : Type 0} (P Q R : Type 0) (r : Result T E) → (P → Q → R) → OnOk r P → OnOk r Q → OnOk r R
on_both P Q R (Ok x) f h k = f h k
on_both P Q R (Err e) f h k = tt

pub if_ok : {T E : Type 0} (P Q : T → Type 0) (r : Result T E) → ((x : T) → P x → Q x) → IfOk r P → IfOk r Q
if_ok P Q (Ok x) f h = f x h
if_ok P Q (Err e) f h = tt

pub either : {T E : Type 0} (A B C : Type 0) (r : Result T E) → (A → C) → (B → C) → OnOk r A → OnErr r B → C
either A B C (Ok x) f g a b = f a
either A B C (Err e) f g a b = g b

pub on_any : {T E : Type 0} (P : Type 0) (r : Result T E) → P → OnOk r P
on_any P (Ok x) h = h
on_any P (Err e) h = tt
