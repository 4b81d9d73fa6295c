-- The pieces of a command line: its plain words, and its options with their values.
use Rattle.std.specs.Prelude.{◌≡◌, ℕ, ◌<◌, ◌≤◌, List, [], ◌∷◌, ◌++◌, ◌⊎◌, length, codes}
use Rattle.std.specs.Fmt.{decimal}
use Rattle.qd_args.specs.declared.command.TheConstants.{MAX_CONNECTIONS}
use Rattle.qd_args.specs.declared.command.Spoken.{Spoken}
use Rattle.qd_args.specs.declared.command.Spoken.TheVariants as spoken
use Rattle.qd_args.specs.Plain.{IsPlainText}

-- a folder's name: a text in UTF-8 that isn't empty and doesn't begin with a hyphen
abbrev pub IsFolder : List ℕ → Type 0
IsFolder dir = (0 < length dir) × IsPlainText dir

-- a number of connections, in decimal, without a sign or a leading zero
abbrev pub IsCount : ℕ → List ℕ → Type 0
IsCount n text = (1 ≤ n) × (n ≤ MAX_CONNECTIONS) × (text ≡ decimal n)

-- the word of a front
abbrev pub word_of : Spoken → List ℕ
word_of spoken.Frames = codes "frames"
word_of spoken.Http = codes "http"
word_of spoken.Pg = codes "pg"

-- an option with its value, in two words or in one
abbrev pub IsOption : List ℕ → List ℕ → List (List ℕ) → Type 0
IsOption name value option = (option ≡ name ∷ value ∷ []) ⊎ (option ≡ (name ++ (codes "=" ++ value)) ∷ [])

pub data Piece : Type 0 where
  word : List ℕ → Piece
  folder : List ℕ → Piece
  connections : ℕ → Piece
  front : Spoken → Piece

-- the words that a piece is spelled by
abbrev pub Spells : Piece → List (List ℕ) → Type 0
Spells (word w) words = IsPlainText w × (words ≡ w ∷ [])
Spells (folder dir) words = IsFolder dir × IsOption (codes "--dir") dir words
Spells (connections n) words = (text : List ℕ) × IsCount n text × IsOption (codes "--connections") text words
Spells (front said) words = IsOption (codes "--front") (word_of said) words

-- the words are spelled by these pieces, one behind the other
abbrev pub AreSpelled : List Piece → List (List ℕ) → Type 0
AreSpelled [] words = words ≡ []
AreSpelled (piece ∷ pieces) words = (first : List (List ℕ)) × (rest : List (List ℕ)) × Spells piece first × AreSpelled pieces rest × (words ≡ first ++ rest)

-- the plain words among pieces
abbrev pub words_in : List Piece → List (List ℕ)
words_in [] = []
words_in (word w ∷ pieces) = w ∷ words_in pieces
words_in (folder dir ∷ pieces) = words_in pieces
words_in (connections n ∷ pieces) = words_in pieces
words_in (front said ∷ pieces) = words_in pieces

-- the folders that options name
abbrev pub folders_in : List Piece → List (List ℕ)
folders_in [] = []
folders_in (word w ∷ pieces) = folders_in pieces
folders_in (folder dir ∷ pieces) = dir ∷ folders_in pieces
folders_in (connections n ∷ pieces) = folders_in pieces
folders_in (front said ∷ pieces) = folders_in pieces

-- the numbers of connections that options give
abbrev pub counts_in : List Piece → List ℕ
counts_in [] = []
counts_in (word w ∷ pieces) = counts_in pieces
counts_in (folder dir ∷ pieces) = counts_in pieces
counts_in (connections n ∷ pieces) = n ∷ counts_in pieces
counts_in (front said ∷ pieces) = counts_in pieces

-- the fronts that options name
abbrev pub fronts_in : List Piece → List Spoken
fronts_in [] = []
fronts_in (word w ∷ pieces) = fronts_in pieces
fronts_in (folder dir ∷ pieces) = fronts_in pieces
fronts_in (connections n ∷ pieces) = fronts_in pieces
fronts_in (front said ∷ pieces) = said ∷ fronts_in pieces
