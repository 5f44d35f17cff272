-- Small containers, their lengths and what they stand for, by computing.
use Rattle.std.proofs.Common.{◌≡◌, ℕ, List, [], ◌∷◌, ◌++◌, codes, Some, None, refl, inr, inl, arith}
use Rattle.gp_glb.specs.Bytes.{Chunk, IsWhole, word, word_at, chunk_bytes, header, headed, padded}
use Rattle.gp_glb.specs.Container.{IsText, json_kind, StandsFor, glb, glb_len, padded_len}
use Rattle.gp_glb.specs.Faults.{IsFirstFault}
use Rattle.gp_glb.specs.Uri.{code_of, strip_prefix, uri_bytes}
use Rattle.base64.proofs.OnLiterals.{base64_on_literals}
use Rattle.gp_glb.specs.declared.fault.GlbFault.TheVariants.{Chunk as BrokenChunk}

-- the smallest container: 48 bytes, 27 of them JSON, and one space
text : List ℕ
text = codes "{\"asset\":{\"version\":\"2.0\"}}"

smallest : List ℕ
smallest =
    codes "glTF" ++ 2 ∷ 0 ∷ 0 ∷ 0 ∷ 48 ∷ 0 ∷ 0 ∷ 0 ∷ 28 ∷ 0 ∷ 0 ∷ 0 ∷ codes "JSON{\"asset\":{\"version\":\"2.0\"}} "

smallest_joined : glb text None [] ≡ smallest
unfolding glb headed header word chunk_bytes padded text smallest
smallest_joined = refl

smallest_length : glb_len 27 None 0 ≡ 48
smallest_length = refl

-- three chunks: JSON with two spaces, BIN with two zeros, and one of another type
another : List ℕ
another = 4 ∷ 0 ∷ 0 ∷ 0 ∷ codes "abcdwxyz"

three : List ℕ
three =
    codes "glTF" ++ 2 ∷ 0 ∷ 0 ∷ 0 ∷ 48 ∷ 0 ∷ 0 ∷ 0 ∷ 4 ∷ 0 ∷ 0 ∷ 0 ∷ codes "JSON{}  " ++ 4 ∷ 0 ∷ 0 ∷ 0 ∷ codes "BIN" ++ 0 ∷ 1 ∷ 2 ∷ 0 ∷ 0 ∷ 4 ∷ 0 ∷ 0 ∷ 0 ∷ codes "abcdwxyz"

three_joined : glb (codes "{}") (Some (1 ∷ 2 ∷ [])) another ≡ three
unfolding glb headed header word chunk_bytes padded another three
three_joined = refl

three_body : List ℕ
three_body = 4 ∷ 0 ∷ 0 ∷ 0 ∷ codes "JSON{}  " ++ 4 ∷ 0 ∷ 0 ∷ 0 ∷ codes "BIN" ++ 0 ∷ 1 ∷ 2 ∷ 0 ∷ 0 ∷ 4 ∷ 0 ∷ 0 ∷ 0 ∷ codes "abcdwxyz"

third : Chunk
third = record { kind = 0x64636261; content = codes "wxyz" }

three_stand : StandsFor three (record { json = codes "{}  "; bin = Some (1 ∷ 2 ∷ 0 ∷ 0 ∷ []); rest = another })
unfolding headed header word chunk_bytes another three three_body third
three_stand =
    let whole : IsWhole third = record { aligned = refl; size = omega arith; kind = omega arith } in
    inr (record {
      body = three_body;
      head = record { past = []; total = omega arith; is_bytes = refl };
      chunks = record {
        others = third ∷ [];
        is_rest = record { whole = (whole, tt); kinds = (((λ e. absurd (omega (arith, e))), λ e. absurd (omega (arith, e))), tt); bytes = refl };
        whole = (record { aligned = refl; size = omega arith; kind = omega arith }, (record { aligned = refl; size = omega arith; kind = omega arith }, (whole, tt)));
        is_body = refl;
      };
    })

-- a text is all JSON
text_stands : StandsFor text (record { json = text; bin = None; rest = [] })
unfolding IsText text
text_stands = inl (record { text = refl; json = refl; bin = refl; rest = refl })

-- JSON twice: chunk 1 is at fault
json_twice : List ℕ
json_twice = codes "glTF" ++ 2 ∷ 0 ∷ 0 ∷ 0 ∷ 36 ∷ 0 ∷ 0 ∷ 0 ∷ 4 ∷ 0 ∷ 0 ∷ 0 ∷ codes "JSON{}  " ++ 4 ∷ 0 ∷ 0 ∷ 0 ∷ codes "JSON{}  "

second : List ℕ
second = 4 ∷ 0 ∷ 0 ∷ 0 ∷ codes "JSON{}  "

json_twice_breaks : IsFirstFault json_twice (BrokenChunk 1)
unfolding IsText word word_at chunk_bytes json_twice second
json_twice_breaks = (
  (λ t. absurd (omega (arith, t))),
  record {
    long = λ h. absurd (omega (arith, h));
    magic = λ h. h refl;
    version = λ h. h refl;
    total = λ h. elim h [ inl low ↦ absurd (omega (arith, low)) | inr high ↦ absurd (omega (arith, high)) ];
  },
  record {
    before = record { kind = json_kind; content = codes "{}  " } ∷ [];
    left = second;
    number = refl;
    sound = (
      record { aligned = refl; size = omega arith; kind = omega arith },
      record { first = λ _. refl; later = λ h. absurd (omega (arith, h)); third = λ h. absurd (omega (arith, h)) },
      tt,
    );
    is_bytes = refl;
    goes_on = λ _. omega arith;
    broken = inr (inr (inr (inr (inl (omega arith, refl)))));
  },
)

-- numbers in four bytes, and padded lengths
largest_word : word 4294967295 ≡ 255 ∷ 255 ∷ 255 ∷ 255 ∷ []
unfolding word
largest_word = refl

word_of_text : word_at (codes "glTF") 0 ≡ 0x46546C67
unfolding word_at
word_of_text = refl

padded_lengths : (padded_len 0 ≡ 0) × (padded_len 1 ≡ 4) × (padded_len 4 ≡ 4) × (padded_len 27 ≡ 28)
padded_lengths = (refl, refl, refl, refl)

-- data URIs
octet_stream : (code_of (codes "data:application/octet-stream;base64,AQIDBA==") ≡ Some (codes "AQIDBA=="))
    × (uri_bytes (codes "data:application/octet-stream;base64,AQIDBA==") ≡ Some (1 ∷ 2 ∷ 3 ∷ 4 ∷ []))
unfolding uri_bytes code_of strip_prefix base64_on_literals
octet_stream = (refl, refl)

gltf_buffer : uri_bytes (codes "data:application/gltf-buffer;base64,Zm9vYg==") ≡ Some (codes "foob")
unfolding uri_bytes code_of strip_prefix base64_on_literals
gltf_buffer = refl

no_padding : (code_of (codes "data:application/gltf-buffer;base64,AQ") ≡ Some (codes "AQ")) × (uri_bytes (codes "data:application/gltf-buffer;base64,AQ") ≡ None)
unfolding uri_bytes code_of strip_prefix base64_on_literals
no_padding = (refl, refl)

bits_left_over : uri_bytes (codes "data:application/gltf-buffer;base64,AR==") ≡ None
unfolding uri_bytes code_of strip_prefix base64_on_literals
bits_left_over = refl

no_buffer : (code_of (codes "data:image/png;base64,AQ==") ≡ None) × (code_of (codes "data:application/octet-stream;base64") ≡ None) × (code_of (codes "") ≡ None)
unfolding code_of strip_prefix
no_buffer = (refl, refl, refl)

empty_code : uri_bytes (codes "data:application/octet-stream;base64,") ≡ Some []
unfolding uri_bytes code_of strip_prefix base64_on_literals
empty_code = refl
