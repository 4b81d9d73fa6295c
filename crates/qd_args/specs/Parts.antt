-- A command line while it is read: what was said so far, and the words that are left.
use Rattle.std.specs.Prelude.{◌≡◌, ℕ, List, [], ◌∷◌, ◌++◌, Option, Some, None, codes, drop, map, option_map}
use Rattle.qd_args.specs.declared.command.Command.{Command}
use Rattle.qd_args.specs.declared.command.Spoken.{Spoken}
use Rattle.qd_args.specs.declared.piece.Piece as found
use Rattle.qd_args.specs.declared.piece.Piece.TheVariants as kind
use Rattle.qd_args.specs.declared.line.Line.{Line}
use Rattle.qd_args.specs.Pieces as pieces
use Rattle.qd_args.specs.Pieces.{AreSpelled, IsOption, Piece, Spells, counts_in, folders_in, fronts_in, words_in}
use Rattle.qd_args.specs.Plain.{ArePlain, IsPlainText}
use Rattle.qd_args.specs.Words.{AsksWith, listed}

-- a piece as it was found
abbrev pub said_by : found.Piece → Piece
said_by (kind.Word text) = pieces.word text.now
said_by (kind.Folder dir) = pieces.folder dir.now
said_by (kind.Connections n) = pieces.connections n
said_by (kind.Front said) = pieces.front said

-- the words begin with an option of this name, with this value, and these stand behind it
abbrev pub IsBehind : (name : List ℕ) → List (List ℕ) → (value : List ℕ) → List (List ℕ) → Type 0
IsBehind name words value rest = (option : List (List ℕ)) × IsOption name value option × (words ≡ option ++ rest)

-- the words begin with a piece, and these stand behind it
abbrev pub BeginsWith : List (List ℕ) → Piece → List (List ℕ) → Type 0
BeginsWith words piece rest = (front : List (List ℕ)) × Spells piece front × (words ≡ front ++ rest)

-- the words begin with no piece
abbrev pub BeginsWithNone : List (List ℕ) → Type 0
BeginsWithNone words = (piece : Piece) (rest : List (List ℕ)) → BeginsWith words piece rest → ⊥

-- a word among pieces is plain
abbrev pub IsPlain : Piece → Type 0
IsPlain (pieces.word w) = IsPlainText w
IsPlain (pieces.folder dir) = Unit {0}
IsPlain (pieces.connections n) = Unit {0}
IsPlain (pieces.front said) = Unit {0}

-- what was said so far: plain words, and the values of options
pub record Said : Type 0 where
  pub words : List (List ℕ)
  pub folder : Option (List ℕ)
  pub connections : Option ℕ
  pub front : Option Spoken

-- before anything is said
abbrev pub unsaid : Said
unsaid = record { words = []; folder = None; connections = None; front = None }

-- an option may be said once
abbrev pub once : {T : Type 0} → Option T → Said → Option Said
once None said = Some said
once (Some x) said = None

-- what is said with a piece more, unless it is an option that was said before
abbrev pub and_piece : Said → Piece → Option Said
and_piece said (pieces.word w) = Some (record said { words = said.words ++ w ∷ [] })
and_piece said (pieces.folder dir) = once said.folder (record said { folder = Some dir })
and_piece said (pieces.connections n) = once said.connections (record said { connections = Some n })
and_piece said (pieces.front f) = once said.front (record said { front = Some f })

-- what that asks for, where no word is left
abbrev pub SaidAsks : Command → Said → Type 0
SaidAsks command said = AsksWith command said.folder said.connections said.front said.words

-- what pieces ask for behind what was said
abbrev pub PiecesAskBeside : Command → Said → List Piece → Type 0
PiecesAskBeside command said pieces = (folder : Option (List ℕ)) × (connections : Option ℕ) × (front : Option Spoken) × (listed said.folder ++ folders_in pieces ≡ listed folder)
    × (listed said.connections ++ counts_in pieces ≡ listed connections) × (listed said.front ++ fronts_in pieces ≡ listed front) × AsksWith command folder connections front (said.words ++ words_in pieces)

-- what a line asks for, where this was said and these words are left
abbrev pub AsksBeside : Command → Said → List (List ℕ) → Type 0
AsksBeside command said words = (pieces : List Piece) × AreSpelled pieces words × PiecesAskBeside command said pieces

-- what a line has said
abbrev pub said_of : Line → Said
said_of line = record { words = drop 1 (map (λ t. t.now) line.texts.items); folder = option_map (λ d. d.now) line.dir; connections = line.connections; front = line.front }

-- its texts are a name for the program, and plain words
abbrev pub IsLine : Line → Type 0
IsLine line = (map (λ t. t.now) line.texts.items ≡ codes "tsdb" ∷ (said_of line).words) × ArePlain (said_of line).words
