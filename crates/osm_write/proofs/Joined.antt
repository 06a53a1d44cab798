-- What calls append one after the other.
use Rattle.std.proofs.Common.{◌≡◌, List, ◌++◌, Result, Ok, Err, append_assoc, refl, OnOk}

pub on_ok : {T E P Q : Type 0} (r : Result T E) → (P → Q) → OnOk r P → OnOk r Q
on_ok (Ok x) f p = f p
on_ok (Err e) f p = p

-- where the fact of the call has to be known first
pub from_ok : {T E P Q : Type 0} (r : Result T E) → OnOk r P → (P → Q) → OnOk r Q
from_ok r p f = on_ok r f p

pub joined_two : {A : Type 0} (o a b o1 : List A) → o1 ≡ o ++ a → o1 ++ b ≡ o ++ (a ++ b)
joined_two o a b o1 e1 = rw (e1, append_assoc) refl

pub joined_three : {A : Type 0} (o a b c o1 o2 : List A) → o1 ≡ o ++ a → o2 ≡ o1 ++ b → o2 ++ c ≡ o ++ (a ++ b ++ c)
joined_three o a b c o1 o2 e1 e2 = rw (e2, e1) (simp append_assoc)

pub joined_four : {A : Type 0} (o a b c d o1 o2 o3 : List A) → o1 ≡ o ++ a → o2 ≡ o1 ++ b → o3 ≡ o2 ++ c → o3 ++ d ≡ o ++ (a ++ b ++ c ++ d)
joined_four o a b c d o1 o2 o3 e1 e2 e3 = rw (e3, e2, e1) (simp append_assoc)

pub joined_five : {A : Type 0} (o a b c d e o1 o2 o3 o4 : List A) → o1 ≡ o ++ a → o2 ≡ o1 ++ b → o3 ≡ o2 ++ c → o4 ≡ o3 ++ d → o4 ++ e ≡ o ++ (a ++ b ++ c ++ d ++ e)
joined_five o a b c d e o1 o2 o3 o4 e1 e2 e3 e4 = rw (e4, e3, e2, e1) (simp append_assoc)

pub joined_six : {A : Type 0} (o a b c d e f o1 o2 o3 o4 o5 : List A) → o1 ≡ o ++ a → o2 ≡ o1 ++ b → o3 ≡ o2 ++ c → o4 ≡ o3 ++ d → o5 ≡ o4 ++ e → o5 ++ f ≡ o ++ (a ++ b ++ c ++ d ++ e ++ f)
joined_six o a b c d e f o1 o2 o3 o4 o5 e1 e2 e3 e4 e5 = rw (e5, e4, e3, e2, e1) (simp append_assoc)
