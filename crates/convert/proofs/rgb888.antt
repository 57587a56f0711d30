-- pixels of RGB888
mod Pixels
