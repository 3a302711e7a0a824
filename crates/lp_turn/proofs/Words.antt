-- The fixed words of turns are ASCII.
use Rattle.std.proofs.Common.{◌≡◌, refl}
use Rattle.std.specs.Prelude.{codes}
use Rattle.std.specs.Str.{chars}

pub chars-master : chars (codes "/secure/master") ≡ codes "/secure/master"
unfolding chars
chars-master = refl

pub chars-connect : chars (codes "connect") ≡ codes "connect"
unfolding chars
chars-connect = refl

pub chars-disconnect : chars (codes "disconnect") ≡ codes "disconnect"
unfolding chars
chars-disconnect = refl

pub chars-logon : chars (codes "logon") ≡ codes "logon"
unfolding chars
chars-logon = refl

pub chars-heart_beat : chars (codes "heart_beat") ≡ codes "heart_beat"
unfolding chars
chars-heart_beat = refl

pub chars-reset : chars (codes "reset") ≡ codes "reset"
unfolding chars
chars-reset = refl

pub chars-clean_up : chars (codes "clean_up") ≡ codes "clean_up"
unfolding chars
chars-clean_up = refl

pub chars-nothing : chars (codes "") ≡ codes ""
unfolding chars
chars-nothing = refl

pub chars-inaugurate : chars (codes "inaugurate_master") ≡ codes "inaugurate_master"
unfolding chars
chars-inaugurate = refl

pub chars-simul : chars (codes "get_simul_efun") ≡ codes "get_simul_efun"
unfolding chars
chars-simul = refl

pub chars-epilog : chars (codes "epilog") ≡ codes "epilog"
unfolding chars
chars-epilog = refl

pub chars-preload : chars (codes "preload") ≡ codes "preload"
unfolding chars
chars-preload = refl

pub chars-target : chars (codes "error: Bad target") ≡ codes "error: Bad target"
unfolding chars
chars-target = refl
