-- Where the objects keep their counts, their heads and their records. No public clause cites this module.
use Rattle.std.specs.Prelude.{ℕ, ◌+◌, ◌*◌, ◌/◌, ◌%◌, List, length}
use Rattle.std.specs.Int.{from_be_bytes, to_be_bytes, w16}
use Rattle.cl_types.specs.Bytes.{bytes_at, with_bytes}
use Rattle.cl_types.specs.declared.limits.TheConstants.{PAGE_BYTES}
use Rattle.mv_offload.specs.declared.layout.TheConstants.{BYTES_AT, COUNT_AT, HEADS_AT, HEAD_BYTES, LENGTH_AT, NUMBER_AT, OBJECTS_AT, PAGE_RECORDS, RECORD_BYTES}

-- where the record of this slot begins: each page but the first has the next records, one after the other
unfoldable pub record_place : ℕ → ℕ
record_place slot = PAGE_BYTES * (1 + slot / PAGE_RECORDS) + RECORD_BYTES * (slot % PAGE_RECORDS)

-- where the head of an object is
abbrev pub head_place : ℕ → ℕ
head_place index = HEADS_AT + HEAD_BYTES * index

-- the number of two bytes at a place
unfoldable pub number_at : ℕ → List ℕ → ℕ
number_at place contents = from_be_bytes w16 (bytes_at place 2 contents)

-- the bytes with a number of two bytes at a place
abbrev pub put_number : ℕ → ℕ → List ℕ → List ℕ
put_number place number contents = with_bytes place (to_be_bytes w16 number) contents

-- the bytes with this record in a slot
abbrev pub put_record : ℕ → ℕ → List ℕ → List ℕ → List ℕ
put_record slot before bytes contents =
    with_bytes (record_place slot + BYTES_AT) bytes
    (put_number (record_place slot + LENGTH_AT) (length bytes) (put_number (record_place slot) before contents))

-- how many objects there are
abbrev pub objects_of : List ℕ → ℕ
objects_of contents = number_at OBJECTS_AT contents

-- how many versions there are over all objects
abbrev pub count_of : List ℕ → ℕ
count_of contents = number_at COUNT_AT contents

-- the last record of an object, or 0; the record in a slot has the number of the slot and 1
abbrev pub last_of : List ℕ → ℕ → ℕ
last_of contents index = number_at (head_place index) contents

-- how many versions the object has
abbrev pub number_of : List ℕ → ℕ → ℕ
number_of contents index = number_at (head_place index + NUMBER_AT) contents

-- the record before that of a slot, or 0
abbrev pub link_of : List ℕ → ℕ → ℕ
link_of contents slot = number_at (record_place slot) contents

-- how many bytes the version in a slot has
abbrev pub size_of : List ℕ → ℕ → ℕ
size_of contents slot = number_at (record_place slot + LENGTH_AT) contents

-- the version in a slot
unfoldable pub bytes_of : List ℕ → ℕ → List ℕ
bytes_of contents slot = bytes_at (record_place slot + BYTES_AT) (size_of contents slot) contents
