-- Worked operations of multi-version objects: at most two objects, and three versions over both.
use Rattle.std.proofs.Common.{◌≡◌, ℕ, List, [], ◌∷◌, ◌++◌, Ok, Err, refl, replicate}
use Rattle.std.specs.Int.{to_be_bytes, w32}
use Rattle.cl_types.specs.declared.reply.Refusal.TheVariants.{ObjectFull, NoKey, BadOp}
use Rattle.mv_offload.specs.Versions.{Given, Versioned, mv_step}
use Rattle.mv_offload.specs.Versions.Object.{MvObject}

-- ---- bytes
-- a number of an object or of a version
abbrev number : ℕ → List ℕ
number n = to_be_bytes w32 n

-- the text aa
abbrev aa : List ℕ
aa = 97 ∷ 97 ∷ []

-- the text b
abbrev b : List ℕ
b = 98 ∷ []

-- ---- objects
-- an object without a version
abbrev one : Versioned
one = [] ∷ []

-- an object of two versions
abbrev one_of_two : Versioned
one_of_two = (aa ∷ b ∷ []) ∷ []

-- the same, and another of one version
abbrev two_of_three : Versioned
two_of_three = (aa ∷ b ∷ []) ∷ ((99 ∷ []) ∷ []) ∷ []

-- what an operation gives that is answered and leaves these objects
abbrev gives : List ℕ → Versioned → Given
gives answer held = Ok (answer, MvObject 2 3 held)

-- ---- operations
first_is_created : mv_step 2 3 [] 1 [] ≡ gives (number 1) one
first_is_created = refl

first_version_is_appended : mv_step 2 3 one 3 (number 1 ++ aa) ≡ gives (number 1) ((aa ∷ []) ∷ [])
first_version_is_appended = refl

second_version_is_appended : mv_step 2 3 ((aa ∷ []) ∷ []) 3 (number 1 ++ b) ≡ gives (number 2) one_of_two
second_version_is_appended = refl

old_version_is_read : mv_step 2 3 one_of_two 2 (number 1 ++ number 1) ≡ gives aa one_of_two
old_version_is_read = refl

latest_is_read : mv_step 2 3 one_of_two 4 (number 1) ≡ gives (number 2 ++ b) one_of_two
latest_is_read = refl

second_is_created : mv_step 2 3 one_of_two 1 [] ≡ gives (number 2) ((aa ∷ b ∷ []) ∷ [] ∷ [])
second_is_created = refl

latest_of_none : mv_step 2 3 ((aa ∷ b ∷ []) ∷ [] ∷ []) 4 (number 2) ≡ Err NoKey
latest_of_none = refl

version_of_the_second_is_appended : mv_step 2 3 ((aa ∷ b ∷ []) ∷ [] ∷ []) 3 (number 2 ++ 99 ∷ []) ≡ gives (number 1) two_of_three
version_of_the_second_is_appended = refl

fourth_version_is_too_many : mv_step 2 3 two_of_three 3 (number 1 ++ 100 ∷ []) ≡ Err ObjectFull
fourth_version_is_too_many = refl

third_object_is_too_many : mv_step 2 3 two_of_three 1 [] ≡ Err ObjectFull
third_object_is_too_many = refl

version_past_the_last : mv_step 2 3 two_of_three 2 (number 1 ++ number 3) ≡ Err NoKey
version_past_the_last = refl

-- ---- bytes that are no operation
operation_of_no_kind : mv_step 2 3 two_of_three 6 [] ≡ Err BadOp
operation_of_no_kind = refl

create_with_a_byte : mv_step 2 3 one 1 (0 ∷ []) ≡ Err BadOp
create_with_a_byte = refl

append_of_three_bytes : mv_step 2 3 one 3 (0 ∷ 0 ∷ 0 ∷ []) ≡ Err BadOp
append_of_three_bytes = refl

version_of_257_bytes : mv_step 2 3 one 3 (number 1 ++ replicate 257 0) ≡ Err BadOp
version_of_257_bytes = refl

read_of_seven_bytes : mv_step 2 3 one 2 (number 1 ++ 0 ∷ 0 ∷ 0 ∷ []) ≡ Err BadOp
read_of_seven_bytes = refl
