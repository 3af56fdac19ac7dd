-- Worked schedules, from bytes to bytes. Written by scripts/rows_as_lemmas from tests/worked.
use Rattle.std.proofs.Common.{◌≡◌, [], ◌∷◌, refl}
use Rattle.std.specs.Prelude.{codes}
use Rattle.std.specs.Fmt.{digits}
use Rattle.hex.specs.Hex.{encode_with}
use Rattle.cl_types.specs.Bytes.{fresh_bytes}
use Rattle.cl_types.specs.Places.{home_of}
use Rattle.flat_model.specs.State.{least}
use Rattle.worked_rows.proofs.RowTexts.{text, replay}

bad_bytes : replay (text (
    codes "node 16 8 4 4"
    ∷ codes "client 1 1"
    ∷ codes "garbage node 434c"
    ∷ codes "garbage node 00*1201"
    ∷ codes "garbage node 434c09*9"
    ∷ codes "garbage 1 434c01*9"
    ∷ codes "garbage node 434c01010001000100000000000000010000000000000001000300010300"
    ∷ codes "garbage node 434c01010001000100000000000000010000000000000001000300010"
    ∷ []
    )) ≡ text (
    codes "line 8: bad bytes"
    ∷ []
    )
unfolding digits encode_with fresh_bytes home_of least
bad_bytes = refl

bad_frames : replay (text (
    codes "node 16 8 4 4"
    ∷ codes "client 1 1"
    ∷ codes "garbage node 434c"
    ∷ codes "garbage node 00*1201"
    ∷ codes "garbage node 434c09*9"
    ∷ codes "garbage 1 434c01*9"
    ∷ codes "garbage node 434c01010001000100000000000000010000000000000001000300010300"
    ∷ []
    )) ≡ text (
    codes "node 16 8 4 4"
    ∷ codes "client 1 1"
    ∷ codes "3 bad short 2 26"
    ∷ codes "4 bad magic"
    ∷ codes "5 bad version 9"
    ∷ codes "6 bad kind 67"
    ∷ codes "7 bad long 30 29"
    ∷ codes "end 0"
    ∷ []
    )
unfolding digits encode_with fresh_bytes home_of least
bad_frames = refl

buckets_seven : replay (text (
    codes "node 16 7 4 4"
    ∷ codes "client 1 1"
    ∷ []
    )) ≡ text (
    codes "bad node: buckets 7"
    ∷ []
    )
unfolding digits encode_with fresh_bytes home_of least
buckets_seven = refl

busy_while_the_oldest_is_young : replay (text (
    codes "node 16 8 4 2"
    ∷ codes "client 1 1"
    ∷ codes "call 1 alloc 1 rw"
    ∷ codes "poll 1"
    ∷ codes "deliver next"
    ∷ codes "deliver next"
    ∷ codes "call 1 write 0x1000 01"
    ∷ codes "poll 1"
    ∷ codes "deliver next"
    ∷ codes "deliver next"
    ∷ codes "call 1 write 0x1000 02"
    ∷ codes "tick 399"
    ∷ codes "poll 1"
    ∷ codes "deliver 5"
    ∷ codes "tick 1"
    ∷ codes "deliver 5"
    ∷ codes "stat"
    ∷ []
    )) ≡ text (
    codes "node 16 8 4 2"
    ∷ codes "client 1 1"
    ∷ codes "3 issued 1.1"
    ∷ codes "4 sent 1 1.1.0 id 1"
    ∷ codes "5 executed 1 1.1.0 ok reply 2"
    ∷ codes "6 took 2 1.1.0; answer 1.1 done 0x1000"
    ∷ codes "7 issued 1.2"
    ∷ codes "8 sent 3 1.2.0 id 2"
    ∷ codes "9 executed 3 1.2.0 ok reply 4"
    ∷ codes "10 took 4 1.2.0; answer 1.2 done"
    ∷ codes "11 issued 1.3"
    ∷ codes "12 now 399"
    ∷ codes "13 sent 5 1.3.0 id 3"
    ∷ codes "14 busy 5 1.3.0 oldest 0 now 399"
    ∷ codes "15 now 400"
    ∷ codes "16 executed 5 1.3.0 ok reply 6"
    ∷ codes "17 stat used 1 retained 2"
    ∷ codes "h 5 0 1.1.0 alloc 1 rw = ok 0x1000"
    ∷ codes "h 9 0 1.2.0 write 0x1000 01 = ok"
    ∷ codes "h 16 0 1.3.0 write 0x1000 02 = ok"
    ∷ codes "end 3"
    ∷ []
    )
unfolding digits encode_with fresh_bytes home_of least
busy_while_the_oldest_is_young = refl

first_path : replay (text (
    codes "node 16 8 4 4"
    ∷ codes "client 1 1"
    ∷ codes "call 1 alloc 1 rw"
    ∷ codes "poll 1"
    ∷ codes "deliver next"
    ∷ codes "deliver next"
    ∷ codes "call 1 write 0x1000 616263"
    ∷ codes "poll 1"
    ∷ codes "deliver next"
    ∷ codes "deliver next"
    ∷ codes "call 1 read 0x1000 4"
    ∷ codes "poll 1"
    ∷ codes "deliver next"
    ∷ codes "deliver next"
    ∷ codes "peek 1 0x1000 4"
    ∷ []
    )) ≡ text (
    codes "node 16 8 4 4"
    ∷ codes "client 1 1"
    ∷ codes "3 issued 1.1"
    ∷ codes "4 sent 1 1.1.0 id 1"
    ∷ codes "5 executed 1 1.1.0 ok reply 2"
    ∷ codes "6 took 2 1.1.0; answer 1.1 done 0x1000"
    ∷ codes "7 issued 1.2"
    ∷ codes "8 sent 3 1.2.0 id 2"
    ∷ codes "9 executed 3 1.2.0 ok reply 4"
    ∷ codes "10 took 4 1.2.0; answer 1.2 done"
    ∷ codes "11 issued 1.3"
    ∷ codes "12 sent 5 1.3.0 id 3"
    ∷ codes "13 looked 5 1.3.0 ok reply 6"
    ∷ codes "14 took 6 1.3.0; answer 1.3 done 61626300"
    ∷ codes "15 peek 61626300"
    ∷ codes "h 5 0 1.1.0 alloc 1 rw = ok 0x1000"
    ∷ codes "h 9 0 1.2.0 write 0x1000 616263 = ok"
    ∷ codes "h 13 0 1.3.0 read 0x1000 4 = ok 61626300"
    ∷ codes "end 3"
    ∷ []
    )
unfolding digits encode_with fresh_bytes home_of least
first_path = refl

frames_expire : replay (text (
    codes "node 16 8 4 4"
    ∷ codes "client 1 1"
    ∷ codes "call 1 alloc 1 rw"
    ∷ codes "poll 1"
    ∷ codes "deliver next"
    ∷ codes "deliver next"
    ∷ codes "call 1 write 0x1000 61"
    ∷ codes "poll 1"
    ∷ codes "tick 99"
    ∷ codes "deliver 3"
    ∷ codes "tick 1"
    ∷ codes "deliver 3"
    ∷ codes "deliver 9"
    ∷ []
    )) ≡ text (
    codes "node 16 8 4 4"
    ∷ codes "client 1 1"
    ∷ codes "3 issued 1.1"
    ∷ codes "4 sent 1 1.1.0 id 1"
    ∷ codes "5 executed 1 1.1.0 ok reply 2"
    ∷ codes "6 took 2 1.1.0; answer 1.1 done 0x1000"
    ∷ codes "7 issued 1.2"
    ∷ codes "8 sent 3 1.2.0 id 2"
    ∷ codes "9 now 99"
    ∷ codes "10 executed 3 1.2.0 ok reply 4"
    ∷ codes "11 now 100"
    ∷ codes "12 expired 3 sent 0"
    ∷ codes "13 absent 9"
    ∷ codes "h 5 0 1.1.0 alloc 1 rw = ok 0x1000"
    ∷ codes "h 10 0 1.2.0 write 0x1000 61 = ok"
    ∷ codes "end 2"
    ∷ []
    )
unfolding digits encode_with fresh_bytes home_of least
frames_expire = refl

fresh_page : replay (text (
    codes "node 16 8 4 4"
    ∷ codes "client 1 1"
    ∷ codes "call 1 alloc 1 rw"
    ∷ codes "poll 1"
    ∷ codes "deliver next"
    ∷ codes "deliver next"
    ∷ codes "call 1 read 0x1000 3"
    ∷ codes "poll 1"
    ∷ codes "deliver next"
    ∷ codes "deliver next"
    ∷ codes "stat"
    ∷ []
    )) ≡ text (
    codes "node 16 8 4 4"
    ∷ codes "client 1 1"
    ∷ codes "3 issued 1.1"
    ∷ codes "4 sent 1 1.1.0 id 1"
    ∷ codes "5 executed 1 1.1.0 ok reply 2"
    ∷ codes "6 took 2 1.1.0; answer 1.1 done 0x1000"
    ∷ codes "7 issued 1.2"
    ∷ codes "8 sent 3 1.2.0 id 2"
    ∷ codes "9 looked 3 1.2.0 ok reply 4"
    ∷ codes "10 took 4 1.2.0; answer 1.2 done 000000"
    ∷ codes "11 stat used 0 retained 1"
    ∷ codes "h 5 0 1.1.0 alloc 1 rw = ok 0x1000"
    ∷ codes "h 9 0 1.2.0 read 0x1000 3 = ok 000000"
    ∷ codes "end 2"
    ∷ []
    )
unfolding digits encode_with fresh_bytes home_of least
fresh_page = refl

garbage_is_a_frame : replay (text (
    codes "node 16 8 4 4"
    ∷ codes "client 1 1"
    ∷ codes "garbage node 434c010100010001000000000000000100000000000000010003000103"
    ∷ []
    )) ≡ text (
    codes "line 3: a frame"
    ∷ []
    )
unfolding digits encode_with fresh_bytes home_of least
garbage_is_a_frame = refl

given_up : replay (text (
    codes "node 16 8 4 8"
    ∷ codes "client 1 1"
    ∷ codes "client 2 1"
    ∷ codes "call 1 alloc 1 rw"
    ∷ codes "poll 1"
    ∷ codes "deliver next"
    ∷ codes "deliver next"
    ∷ codes "call 1 read 0x1000 1"
    ∷ codes "call 2 read 0x1000 1"
    ∷ codes "poll 1"
    ∷ codes "poll 2"
    ∷ codes "tick 300"
    ∷ codes "poll 1"
    ∷ codes "tick 1"
    ∷ codes "poll 2"
    ∷ codes "tick 98"
    ∷ codes "poll 2"
    ∷ codes "deliver 5"
    ∷ codes "tick 1"
    ∷ codes "poll 2"
    ∷ codes "poll 1"
    ∷ codes "deliver 6"
    ∷ []
    )) ≡ text (
    codes "node 16 8 4 8"
    ∷ codes "client 1 1"
    ∷ codes "client 2 1"
    ∷ codes "4 issued 1.1"
    ∷ codes "5 sent 1 1.1.0 id 1"
    ∷ codes "6 executed 1 1.1.0 ok reply 2"
    ∷ codes "7 took 2 1.1.0; answer 1.1 done 0x1000"
    ∷ codes "8 issued 1.2"
    ∷ codes "9 issued 2.1"
    ∷ codes "10 sent 3 1.2.0 id 2"
    ∷ codes "11 sent 4 2.1.0 id 1"
    ∷ codes "12 now 300"
    ∷ codes "13 again 5 1.2.0 id 3 orig 2"
    ∷ codes "14 now 301"
    ∷ codes "15 idle"
    ∷ codes "16 now 399"
    ∷ codes "17 idle"
    ∷ codes "18 looked 5 1.2.0 ok reply 6"
    ∷ codes "19 now 400"
    ∷ codes "20 gave up 2.1.0; answer 2.1 timed out 0 400"
    ∷ codes "21 gave up 1.2.0; answer 1.2 timed out 0 400"
    ∷ codes "22 late 6 orig 2"
    ∷ codes "h 6 0 1.1.0 alloc 1 rw = ok 0x1000"
    ∷ codes "end 1"
    ∷ []
    )
unfolding digits encode_with fresh_bytes home_of least
given_up = refl

key_value_store : replay (text (
    codes "node 16 8 4 16"
    ∷ codes "offload kv 2"
    ∷ codes "client 1 1"
    ∷ codes "call 1 offload 0 1 0 016176"
    ∷ codes "poll 1"
    ∷ codes "deliver next"
    ∷ codes "deliver next"
    ∷ codes "call 1 offload 0 1 0 016277"
    ∷ codes "poll 1"
    ∷ codes "deliver next"
    ∷ codes "deliver next"
    ∷ codes "call 1 offload 0 1 0 016378"
    ∷ codes "poll 1"
    ∷ codes "deliver next"
    ∷ codes "deliver next"
    ∷ codes "call 1 offload 0 1 0 01617a"
    ∷ codes "poll 1"
    ∷ codes "deliver next"
    ∷ codes "deliver next"
    ∷ codes "call 1 offload 0 3 0 0161"
    ∷ codes "poll 1"
    ∷ codes "deliver next"
    ∷ codes "deliver next"
    ∷ codes "call 1 offload 0 2 256 0161"
    ∷ codes "poll 1"
    ∷ codes "deliver next"
    ∷ codes "deliver next"
    ∷ codes "call 1 offload 0 1 0 016179"
    ∷ codes "poll 1"
    ∷ codes "deliver next"
    ∷ codes "deliver next"
    ∷ codes "deliver 9"
    ∷ codes "deliver next"
    ∷ codes "call 1 offload 0 2 256 0161"
    ∷ codes "poll 1"
    ∷ codes "deliver next"
    ∷ codes "deliver next"
    ∷ codes "call 1 offload 1 2 8 -"
    ∷ codes "poll 1"
    ∷ codes "deliver next"
    ∷ codes "deliver next"
    ∷ []
    )) ≡ text (
    codes "node 16 8 4 16"
    ∷ codes "offload kv 2"
    ∷ codes "client 1 1"
    ∷ codes "4 issued 1.1"
    ∷ codes "5 sent 1 1.1.0 id 1"
    ∷ codes "6 executed 1 1.1.0 ok reply 2"
    ∷ codes "7 took 2 1.1.0; answer 1.1 done -"
    ∷ codes "8 issued 1.2"
    ∷ codes "9 sent 3 1.2.0 id 2"
    ∷ codes "10 executed 3 1.2.0 ok reply 4"
    ∷ codes "11 took 4 1.2.0; answer 1.2 done -"
    ∷ codes "12 issued 1.3"
    ∷ codes "13 sent 5 1.3.0 id 3"
    ∷ codes "14 executed 5 1.3.0 object full reply 6"
    ∷ codes "15 took 6 1.3.0; answer 1.3 refused object full"
    ∷ codes "16 issued 1.4"
    ∷ codes "17 sent 7 1.4.0 id 4"
    ∷ codes "18 executed 7 1.4.0 ok reply 8"
    ∷ codes "19 took 8 1.4.0; answer 1.4 done -"
    ∷ codes "20 issued 1.5"
    ∷ codes "21 sent 9 1.5.0 id 5"
    ∷ codes "22 executed 9 1.5.0 ok reply 10"
    ∷ codes "23 took 10 1.5.0; answer 1.5 done -"
    ∷ codes "24 issued 1.6"
    ∷ codes "25 sent 11 1.6.0 id 6"
    ∷ codes "26 looked 11 1.6.0 no key reply 12"
    ∷ codes "27 took 12 1.6.0; answer 1.6 refused no key"
    ∷ codes "28 issued 1.7"
    ∷ codes "29 sent 13 1.7.0 id 7"
    ∷ codes "30 executed 13 1.7.0 ok reply 14"
    ∷ codes "31 took 14 1.7.0; answer 1.7 done -"
    ∷ codes "32 repeated 9 1.5.0 ok reply 15"
    ∷ codes "33 late 15 orig 5"
    ∷ codes "34 issued 1.8"
    ∷ codes "35 sent 16 1.8.0 id 8"
    ∷ codes "36 looked 16 1.8.0 ok reply 17"
    ∷ codes "37 took 17 1.8.0; answer 1.8 done 79"
    ∷ codes "38 issued 1.9"
    ∷ codes "39 sent 18 1.9.0 id 9"
    ∷ codes "40 looked 18 1.9.0 no offload reply 19"
    ∷ codes "41 took 19 1.9.0; answer 1.9 refused no offload"
    ∷ codes "h 6 0 1.1.0 offload 0 1 0 016176 = ok -"
    ∷ codes "h 10 0 1.2.0 offload 0 1 0 016277 = ok -"
    ∷ codes "h 14 0 1.3.0 offload 0 1 0 016378 = object full"
    ∷ codes "h 18 0 1.4.0 offload 0 1 0 01617a = ok -"
    ∷ codes "h 22 0 1.5.0 offload 0 3 0 0161 = ok -"
    ∷ codes "h 26 0 1.6.0 offload 0 2 256 0161 = no key"
    ∷ codes "h 30 0 1.7.0 offload 0 1 0 016179 = ok -"
    ∷ codes "h 36 0 1.8.0 offload 0 2 256 0161 = ok 79"
    ∷ codes "h 40 0 1.9.0 offload 1 2 8 - = no offload"
    ∷ codes "end 9"
    ∷ []
    )
unfolding digits encode_with fresh_bytes home_of least
key_value_store = refl
