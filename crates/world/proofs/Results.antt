-- What follows of a value follows of a result.
use Rattle.std.specs.Prelude.{Result, Ok, Err, IfOk, OnOk}

pub if_ok_weaker : {A E : Type 0} (P Q : A → Type 0) (r : Result A E) → ((x : A) → P x → Q x) → IfOk r P → IfOk r Q
if_ok_weaker P Q (Ok x) f h = f x h
if_ok_weaker P Q (Err e) f h = tt

pub on_ok_from : {A E : Type 0} (P : A → Type 0) (Q R : Type 0) (r : Result A E) → ((x : A) → P x → Q → R) → IfOk r P → OnOk r Q → OnOk r R
on_ok_from P Q R (Ok x) f h k = f x h k
on_ok_from P Q R (Err e) f h k = tt

pub if_ok_two : {A E : Type 0} (P Q R : A → Type 0) (r : Result A E) → ((x : A) → P x → Q x → R x) → IfOk r P → IfOk r Q → IfOk r R
if_ok_two P Q R (Ok x) f h k = f x h k
if_ok_two P Q R (Err e) f h k = tt

pub on_ok_always : {A E Q : Type 0} (r : Result A E) → Q → OnOk r Q
on_ok_always (Ok x) q = q
on_ok_always (Err e) q = tt
