-- The words of a command line that ask for a command. They are this project's own.
use Rattle.std.specs.Prelude.{◌≡◌, ℕ, ◌^◌, ◌<◌, ◌≤◌, List, [], ◌∷◌, Option, Some, None, codes}
use Rattle.std.specs.Fmt.{decimal}
use Rattle.qd_args.specs.declared.command.TheConstants.{MAX_GEN_LINES}
use Rattle.qd_args.specs.declared.command.Command.{Command}
use Rattle.qd_args.specs.declared.command.Command.TheVariants as command
use Rattle.qd_args.specs.declared.command.Spoken.{Spoken}
use Rattle.qd_args.specs.declared.command.Spoken.TheVariants as spoken
use Rattle.qd_args.specs.Pieces.{AreSpelled, Piece, counts_in, folders_in, fronts_in, words_in}

-- the front that was said, or frames where none was
abbrev pub front_or_frames : Option Spoken → Spoken
front_or_frames None = spoken.Frames
front_or_frames (Some front) = front

-- The table of commands: what plain words ask for, beside the folder, the number of connections and the front that options
-- give. Numbers are in decimal, without a sign or a leading zero.
abbrev pub AsksWith : Command → (folder : Option (List ℕ)) → (connections : Option ℕ) → (said : Option Spoken) → List (List ℕ) → Type 0
AsksWith (command.Run dir) folder connections said words = (folder ≡ dir) × (connections ≡ None) × (said ≡ None) × (words ≡ codes "run" ∷ [])
AsksWith (command.Gen number lines) folder connections said words = (folder ≡ None) × (connections ≡ None) × (said ≡ None) × (number < 2 ^ 32) × (1 ≤ lines) × (lines ≤ MAX_GEN_LINES) × (words ≡ codes "gen" ∷ decimal number ∷ decimal lines ∷ [])
AsksWith (command.Serve port dir most front) folder connections said words = (folder ≡ Some dir) × (connections ≡ most) × (front_or_frames said ≡ front) × (1 ≤ port) × (port < 2 ^ 16) × (words ≡ codes "serve" ∷ decimal port ∷ [])

-- what there is of something that may be left out
abbrev pub listed : {T : Type 0} → Option T → List T
listed None = []
listed (Some x) = x ∷ []

-- what pieces ask for: each option stands among them at most once, at any place
abbrev pub PiecesAsk : Command → List Piece → Type 0
PiecesAsk command pieces = (folder : Option (List ℕ)) × (connections : Option ℕ) × (said : Option Spoken) × (folders_in pieces ≡ listed folder) × (counts_in pieces ≡ listed connections) × (fronts_in pieces ≡ listed said)
    × AsksWith command folder connections said (words_in pieces)

-- what words ask for
abbrev pub Asks : Command → List (List ℕ) → Type 0
Asks command words = (pieces : List Piece) × AreSpelled pieces words × PiecesAsk command pieces

-- the words of some command
abbrev pub IsCommand : List (List ℕ) → Type 0
IsCommand words = (command : Command) × Asks command words

-- Law: no words ask for two commands.
abbrev pub AskForOne : Type 0
AskForOne = (words : List (List ℕ)) (one other : Command) → Asks one words → Asks other words → one ≡ other
