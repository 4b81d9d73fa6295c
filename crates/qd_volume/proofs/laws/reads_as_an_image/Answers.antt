use Rattle.qd_volume.specs.Disk.{file_of}
use Rattle.qd_volume.proofs.Sound.{image_of_reads, sound_file}
use Rattle.qd_volume.proofs.laws.reads_as_an_image.Goals as goal

pub returns : goal.returns
returns c disk file = image_of_reads (file_of disk file) (sound_file disk file)
